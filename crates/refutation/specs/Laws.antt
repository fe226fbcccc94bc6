-- Laws of contradictions.
use Rattle.std.specs.Prelude.{◌≡◌, ℕ, List, true}
use Rattle.ot_theory.specs.Languages.{Term, refuted}
use Rattle.ot_theory.specs.Problems.{Problem}
use Rattle.ot_theory.specs.Refutations.{is_contradiction, refutes}
use Rattle.violation_profiles.specs.WellFormed.{IsPrefix, IsWellFormed}

-- Of the prefixes of a problem, a contradiction of it refutes none but those that hold under no ranking.
abbrev pub RefutesOnlyRefuted : Problem → List Term → List ℕ → Type 0
RefutesOnlyRefuted problem terms prefix =
    IsWellFormed problem → IsPrefix problem prefix → is_contradiction problem terms ≡ true → refutes terms prefix ≡ true → refuted problem prefix ≡ true
