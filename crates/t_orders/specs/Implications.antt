-- Outputs, and which of them implies which, over all rankings and over some choices.
use Rattle.std.specs.Prelude.{◌≡◌, ℕ, Bool, not, ◌&&◌, ◌||◌, ◌==◌, List, map, length, slice_index, filter, flat_map}
use Rattle.std.specs.List.{list_any, list_all}
use Rattle.ot_theory.specs.Rankings.{numbers_below, rankings, optimal}
use Rattle.ot_theory.specs.Problems.{Problem}
use Rattle.ot_theory.specs.Languages.{classes_at, keeps_givens, languages}
use Rattle.refutation.specs.declared.implication.Implication.{Implication}
use Rattle.refutation.specs.declared.typology.Language.{Language}

-- An output: an input and a class of it, by their numbers.
pub record Output : Type 0 where
  pub input : ℕ
  pub class : ℕ

-- all outputs of a problem, in order of input and then of class
abbrev pub outputs : Problem → List Output
outputs problem = flat_map (λ i. map (λ a. record { input = i; class = a }) (numbers_below (length (classes_at problem i)))) (numbers_below (length problem.inputs))

-- the ranking keeps the given pairs, and makes the output optimal in its input
abbrev pub wins : Problem → List ℕ → Output → Bool
wins problem order output = keeps_givens problem order && optimal order (classes_at problem output.input) output.class

-- some ranking that keeps the given pairs makes the output optimal
unfoldable pub is_possible : Problem → Output → Bool
is_possible problem output = list_any (λ order. wins problem order output) (rankings problem.constraints)

-- every ranking that keeps the given pairs and makes the one output optimal makes the other optimal
unfoldable pub implies : Problem → Output → Output → Bool
implies problem from to = list_all (λ order. not (wins problem order from) || wins problem order to) (rankings problem.constraints)

-- An implication is listed where its two inputs differ and some ranking that keeps the given pairs makes the implying output optimal.
abbrev pub is_listed : Problem → Output → Output → Bool
is_listed problem from to = not (from.input == to.input) && is_possible problem from && implies problem from to

abbrev pub implication : Output → Output → Implication
implication from to =
    record { from_input = record { 0 = from.input }; from_class = record { 0 = from.class }; to_input = record { 0 = to.input }; to_class = record { 0 = to.class } }

-- The implications of a problem: of each output in order, those with the outputs that it implies, in order.
unfoldable pub implications : Problem → List Implication
implications problem = flat_map (λ from. map (implication from) (filter (is_listed problem from) (outputs problem))) (outputs problem)

-- the choice has this class at this input
abbrev pub has : Output → List ℕ → Bool
has output choice = slice_index choice output.input == output.class

-- Some choices tell an implication where its two inputs differ, some of them has the implying output, and every one that has it
-- has the other.
abbrev pub is_listed_by : List (List ℕ) → Output → Output → Bool
is_listed_by choices from to = not (from.input == to.input) && list_any (has from) choices && list_all (λ choice. not (has from choice) || has to choice) choices

-- The implications between outputs of a problem that some choices tell, in order of the implying output and then of the implied one.
unfoldable pub implications_by : Problem → List (List ℕ) → List Implication
implications_by problem choices = flat_map (λ from. map (implication from) (filter (is_listed_by choices from) (outputs problem))) (outputs problem)

-- the choices of languages
abbrev pub choices_of : List Language → List (List ℕ)
choices_of languages = map (λ language. language.choice) languages

-- these are the languages of the problem, in order, each beside a hierarchy
abbrev pub AreLanguages : Problem → List (List ℕ × List ℕ) → Type 0
AreLanguages problem found = map (λ language. language.0) found ≡ languages problem
