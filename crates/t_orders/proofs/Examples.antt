-- Worked examples: the implications of small problems.
use Rattle.std.proofs.Common.{◌≡◌, ℕ, [], ◌∷◌, None, refl}
use Rattle.refutation.specs.declared.implication.Implication.{Implication}
use Rattle.ot_theory.specs.Rankings.{rankings, put_somewhere}
use Rattle.ot_theory.specs.Problems.{Problem, Pair, input_of, with_given}
use Rattle.ot_theory.proofs.Examples.{one_input, two_inputs, syllables}
use Rattle.t_orders.specs.Implications.{implication, is_possible, implies, implications, implications_by}

abbrev from_to : ℕ → ℕ → ℕ → ℕ → Implication
from_to i a j b = implication (record { input = i; class = a }) (record { input = j; class = b })

pub implications_of_two_inputs : implications two_inputs ≡
    from_to 0 0 1 0 ∷ from_to 0 1 1 1 ∷ from_to 0 2 1 2 ∷ from_to 1 0 0 0 ∷ from_to 1 1 0 1 ∷ from_to 1 2 0 2 ∷ []
unfolding rankings put_somewhere is_possible implies implications
implications_of_two_inputs = refl

pub implications_of_syllables : implications syllables ≡ []
unfolding rankings put_somewhere is_possible implies implications
implications_of_syllables = refl

pub implications_of_one_input : implications one_input ≡ []
unfolding rankings put_somewhere is_possible implies implications
implications_of_one_input = refl

-- two constraints; a compromise that no ranking makes optimal, and an input with one class alone
abbrev compromise : Problem
compromise = record {
  constraints = 2;
  inputs = input_of ((2 ∷ 0 ∷ []) ∷ (0 ∷ 2 ∷ []) ∷ (1 ∷ 1 ∷ []) ∷ []) [] ∷ input_of ((0 ∷ 0 ∷ []) ∷ []) [] ∷ [];
  given = None;
}

pub implications_of_compromise : implications compromise ≡ from_to 0 0 1 0 ∷ from_to 0 1 1 0 ∷ []
unfolding rankings put_somewhere is_possible implies implications
implications_of_compromise = refl

-- three constraints; the first class of the first input implies that of the second, and not the other way round
abbrev one_way : Problem
one_way = record {
  constraints = 3;
  inputs =
      input_of ((1 ∷ 0 ∷ 0 ∷ []) ∷ (0 ∷ 1 ∷ 0 ∷ []) ∷ (0 ∷ 0 ∷ 1 ∷ []) ∷ []) []
      ∷ input_of ((1 ∷ 0 ∷ 0 ∷ []) ∷ (0 ∷ 1 ∷ 1 ∷ []) ∷ []) [] ∷ [];
  given = None;
}

pub implications_of_one_way : implications one_way ≡ from_to 0 0 1 0 ∷ []
unfolding rankings put_somewhere is_possible implies implications
implications_of_one_way = refl

-- ---- what some choices tell
-- the languages of two equal inputs
pub implications_by_languages : implications_by two_inputs ((0 ∷ 0 ∷ []) ∷ (1 ∷ 1 ∷ []) ∷ (2 ∷ 2 ∷ []) ∷ []) ≡
    from_to 0 0 1 0 ∷ from_to 0 1 1 1 ∷ from_to 0 2 1 2 ∷ from_to 1 0 0 0 ∷ from_to 1 1 0 1 ∷ from_to 1 2 0 2 ∷ []
unfolding implications_by
implications_by_languages = refl

-- Two choices with one class of the first input: it implies neither class of the second, and each of these implies it.
pub implications_by_two_choices : implications_by two_inputs ((0 ∷ 1 ∷ []) ∷ (0 ∷ 2 ∷ []) ∷ []) ≡ from_to 1 1 0 0 ∷ from_to 1 2 0 0 ∷ []
unfolding implications_by
implications_by_two_choices = refl

pub implications_by_no_choice : implications_by two_inputs [] ≡ []
unfolding implications_by
implications_by_no_choice = refl

-- a given pair leaves the implications under the rankings that keep it
abbrev given_pair : Pair
given_pair = record { above = 0; below = 1 }

pub implications_with_a_pair : implications (with_given two_inputs (given_pair ∷ [])) ≡ from_to 0 1 1 1 ∷ from_to 0 2 1 2 ∷ from_to 1 1 0 1 ∷ from_to 1 2 0 2 ∷ []
unfolding rankings put_somewhere is_possible implies implications
implications_with_a_pair = refl
