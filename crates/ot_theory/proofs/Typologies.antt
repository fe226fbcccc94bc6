-- Whether a choice is a language.
use Rattle.std.proofs.Common.{◌≡◌, ℕ, List, true, false, ◌∙◌, Option, Some, None, MatchOption}
use Rattle.std.specs.Prelude.{IfSome, IfNone}
use Rattle.ot_theory.specs.declared.Mark.{Mark}
use Rattle.ot_theory.specs.Hierarchies.{IsLeastHierarchy}
use Rattle.ot_theory.specs.Problems.{Problem}
use Rattle.ot_theory.specs.Languages.{refuted, conditions_of}
use Rattle.ot_theory.specs.Refutations.{no_ranking_keeps}
use Rattle.ot_theory.proofs.Optimal.{IsFitting, refuted-conditions}

-- a choice beside the least hierarchy of its conditions
abbrev pub HasLeast : Problem → List ℕ × List ℕ → Type 0
HasLeast problem (choice, levels) = IsLeastHierarchy problem.constraints (conditions_of problem choice) levels

-- Demotion of its conditions decides whether a choice is a language.
pub refuted-demoted : (problem : Problem) (choice : List ℕ) (n : ℕ) (set : List (List Mark)) (levels : Option (List ℕ)) → IsFitting problem choice
    → n ≡ problem.constraints → set ≡ conditions_of problem choice
    → IfSome levels (λ least. (no_ranking_keeps n set ≡ false) × IsLeastHierarchy n set least) → IfNone levels (no_ranking_keeps n set ≡ true)
    → MatchOption levels (refuted problem choice ≡ true) (λ least. (refuted problem choice ≡ false) × HasLeast problem (choice, least))
refuted-demoted problem choice n set None fits e same ranked stuck = refuted-conditions problem choice fits ∙ (rw (e, same) at stuck)
refuted-demoted problem choice n set (Some least) fits e same ranked stuck =
    (refuted-conditions problem choice fits ∙ (rw (e, same) at ranked.0), rw (e, same) at ranked.1)
