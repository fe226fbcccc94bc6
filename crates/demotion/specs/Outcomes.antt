-- What demotion comes to, case by case.
use Rattle.std.specs.Prelude.{ℕ, List}
use Rattle.demotion.specs.declared.demoted.Demoted.{Demoted}
use Rattle.demotion.specs.declared.demoted.Demoted.TheVariants.{Ranked, Stuck}

-- P holds of the hierarchy, if there is one
abbrev pub IfRanked : Demoted → (List ℕ → Type 0) → Type 0
IfRanked (Ranked levels) P = P levels
IfRanked (Stuck positions) P = Unit {0}

-- P holds of the positions that are left open, if the conditions have no hierarchy
abbrev pub IfStuck : Demoted → (List ℕ → Type 0) → Type 0
IfStuck (Ranked levels) P = Unit {0}
IfStuck (Stuck positions) P = P positions
