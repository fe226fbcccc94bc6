-- Laws of implications: they can be read off the languages.
use Rattle.std.specs.Prelude.{◌≡◌, ℕ, ◌<◌, true, not, ◌||◌, List, length, Contains}
use Rattle.std.specs.List.{list_any, list_all}
use Rattle.ot_theory.specs.Rankings.{IsRanking}
use Rattle.ot_theory.specs.Problems.{Problem}
use Rattle.ot_theory.specs.Languages.{holds, keeps_givens, languages}
use Rattle.violation_profiles.specs.WellFormed.{IsWellFormed}
use Rattle.t_orders.specs.Implications.{Output, has, is_possible, implies, implications, implications_by}

-- Under a ranking that keeps the given pairs one language holds, and no other.
pub record HoldsOneLanguage (problem : Problem) (order : List ℕ) : Type 0 where
  pub language : List ℕ
  pub listed : Contains (languages problem) language
  pub agrees : holds problem order language ≡ true
  pub only : (other : List ℕ) → Contains (languages problem) other → holds problem order other ≡ true → other ≡ language

abbrev pub GivesOneLanguage : Problem → List ℕ → Type 0
GivesOneLanguage problem order = IsWellFormed problem → IsRanking problem.constraints order → keeps_givens problem order ≡ true → HoldsOneLanguage problem order

-- Some ranking makes an output optimal exactly where a language has it.
abbrev pub IsPossibleByLanguages : Problem → Output → Type 0
IsPossibleByLanguages problem output =
    IsWellFormed problem → output.input < length problem.inputs → is_possible problem output ≡ list_any (has output) (languages problem)

-- One output implies another exactly where every language that has the one has the other.
abbrev pub ImpliesByLanguages : Problem → Output → Output → Type 0
ImpliesByLanguages problem from to =
    IsWellFormed problem → from.input < length problem.inputs → to.input < length problem.inputs
    → implies problem from to ≡ list_all (λ choice. not (has from choice) || has to choice) (languages problem)

-- The implications of a problem are those that its languages tell.
abbrev pub AreToldByLanguages : Problem → Type 0
AreToldByLanguages problem = IsWellFormed problem → implications problem ≡ implications_by problem (languages problem)
