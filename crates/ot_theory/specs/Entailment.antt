-- Entailment: what follows from a set of conditions under all rankings.
use Rattle.std.specs.Prelude.{ℕ, Bool, not, ◌||◌, List}
use Rattle.std.specs.List.{list_all}
use Rattle.ot_theory.specs.declared.Mark.{Mark}
use Rattle.ot_theory.specs.Rankings.{rankings}
use Rattle.ot_theory.specs.Conditions.{keeps}

-- A set of conditions over n constraints entails a condition where every ranking that keeps the set keeps the condition. So a
-- set that no ranking keeps entails each condition.
unfoldable pub entails : ℕ → List (List Mark) → List Mark → Bool
entails n set marks = list_all (λ order. not (list_all (keeps order) set) || keeps order marks) (rankings n)
