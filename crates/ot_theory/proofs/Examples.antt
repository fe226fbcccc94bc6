-- Worked examples: the definitions computed on small problems.
use Rattle.std.proofs.Common.{◌≡◌, ℕ, List, [], ◌∷◌, map, refl, None}
use Rattle.std.specs.Prelude.{true, false}
use Rattle.ot_theory.specs.declared.Mark.TheVariants.{W, L, E}
use Rattle.ot_theory.specs.Rankings.{rankings, put_somewhere}
use Rattle.ot_theory.specs.Hierarchies.{satisfies, order_along}
use Rattle.ot_theory.specs.Problems.{Problem, Pair, input_of, with_given}
use Rattle.ot_theory.specs.Languages.{languages, choices, refuted, conditions_of, Term, Loser, Given}
use Rattle.ot_theory.specs.Refutations.{certificates, certificate_named, cuts, prefixes, no_ranking_keeps, certificate_of}
use Rattle.ot_theory.specs.Entailment.{entails}

pub rankings_of_three : rankings 3 ≡ (2 ∷ 1 ∷ 0 ∷ []) ∷ (1 ∷ 2 ∷ 0 ∷ []) ∷ (1 ∷ 0 ∷ 2 ∷ []) ∷ (2 ∷ 0 ∷ 1 ∷ []) ∷ (0 ∷ 2 ∷ 1 ∷ []) ∷ (0 ∷ 1 ∷ 2 ∷ []) ∷ []
unfolding rankings put_somewhere
rankings_of_three = refl

-- three candidates, each with one violation of a constraint of its own
abbrev one_each : List (List ℕ)
one_each = (1 ∷ 0 ∷ 0 ∷ []) ∷ (0 ∷ 1 ∷ 0 ∷ []) ∷ (0 ∷ 0 ∷ 1 ∷ []) ∷ []

abbrev pub one_input : Problem
one_input = record { constraints = 3; inputs = input_of one_each (1 ∷ 0 ∷ 0 ∷ []) ∷ []; given = None }

abbrev pub two_inputs : Problem
two_inputs = record { constraints = 3; inputs = input_of one_each (1 ∷ 0 ∷ 0 ∷ []) ∷ input_of one_each (1 ∷ 0 ∷ 0 ∷ []) ∷ []; given = None }

pub languages_of_one_input : languages one_input ≡ (0 ∷ []) ∷ (1 ∷ []) ∷ (2 ∷ []) ∷ []
unfolding rankings put_somewhere languages choices refuted
languages_of_one_input = refl

pub languages_of_two_inputs : languages two_inputs ≡ (0 ∷ 0 ∷ []) ∷ (1 ∷ 1 ∷ []) ∷ (2 ∷ 2 ∷ []) ∷ []
unfolding rankings put_somewhere languages choices refuted
languages_of_two_inputs = refl

pub conditions_of_first : conditions_of one_input (0 ∷ []) ≡ (L ∷ W ∷ E ∷ []) ∷ (L ∷ E ∷ W ∷ []) ∷ []
conditions_of_first = refl

pub satisfied : satisfies (2 ∷ 1 ∷ 1 ∷ []) (L ∷ W ∷ E ∷ []) ≡ true
satisfied = refl

pub two_strata : order_along (2 ∷ 1 ∷ 2 ∷ 1 ∷ []) ≡ 1 ∷ 3 ∷ 0 ∷ 2 ∷ []
two_strata = refl

abbrev t : ℕ → ℕ → ℕ → Term
t i a b = Loser i a b

pub cuts_of_two_inputs : cuts two_inputs ≡ (0 ∷ 1 ∷ []) ∷ (0 ∷ 2 ∷ []) ∷ (1 ∷ 0 ∷ []) ∷ (1 ∷ 2 ∷ []) ∷ (2 ∷ 0 ∷ []) ∷ (2 ∷ 1 ∷ []) ∷ []
unfolding rankings put_somewhere refuted prefixes cuts
cuts_of_two_inputs = refl

pub certificates_of_two_inputs : certificates two_inputs ≡
    (t 0 0 1 ∷ t 1 1 0 ∷ []) ∷ (t 0 0 2 ∷ t 1 2 0 ∷ []) ∷ (t 0 1 0 ∷ t 1 0 1 ∷ [])
    ∷ (t 0 1 2 ∷ t 1 2 1 ∷ []) ∷ (t 0 2 0 ∷ t 1 0 2 ∷ []) ∷ (t 0 2 1 ∷ t 1 1 2 ∷ []) ∷ []
unfolding rankings put_somewhere refuted prefixes cuts no_ranking_keeps certificate_of certificates
certificates_of_two_inputs = refl

pub certificates_named_of_two_inputs : map (certificate_named two_inputs) (cuts two_inputs) ≡ 0 ∷ 1 ∷ 2 ∷ 3 ∷ 4 ∷ 5 ∷ []
unfolding rankings put_somewhere refuted prefixes cuts no_ranking_keeps certificate_of certificates
certificates_named_of_two_inputs = refl

-- two constraints, and a class in the middle that wins under neither ranking
abbrev pub middle : Problem
middle = record { constraints = 2; inputs = input_of ((2 ∷ 0 ∷ []) ∷ (0 ∷ 2 ∷ []) ∷ (1 ∷ 1 ∷ []) ∷ []) [] ∷ []; given = None }

pub languages_of_middle : languages middle ≡ (0 ∷ []) ∷ (1 ∷ []) ∷ []
unfolding rankings put_somewhere languages choices refuted
languages_of_middle = refl

pub cuts_of_middle : cuts middle ≡ (2 ∷ []) ∷ []
unfolding rankings put_somewhere refuted prefixes cuts
cuts_of_middle = refl

pub certificates_of_middle : certificates middle ≡ (t 0 2 0 ∷ t 0 2 1 ∷ []) ∷ []
unfolding rankings put_somewhere refuted prefixes cuts no_ranking_keeps certificate_of certificates
certificates_of_middle = refl

pub certificates_named_of_middle : map (certificate_named middle) (cuts middle) ≡ 0 ∷ []
unfolding rankings put_somewhere refuted prefixes cuts no_ranking_keeps certificate_of certificates
certificates_named_of_middle = refl

-- a class of the second input that is worse than another everywhere
abbrev pub bounded : Problem
bounded = record { constraints = 3; inputs = input_of one_each [] ∷ input_of ((0 ∷ 0 ∷ 0 ∷ []) ∷ (1 ∷ 0 ∷ 0 ∷ []) ∷ []) [] ∷ []; given = None }

pub cuts_of_bounded : cuts bounded ≡ (0 ∷ 1 ∷ []) ∷ (1 ∷ 1 ∷ []) ∷ (2 ∷ 1 ∷ []) ∷ []
unfolding rankings put_somewhere refuted prefixes cuts
cuts_of_bounded = refl

pub certificates_of_bounded : certificates bounded ≡ (t 1 1 0 ∷ []) ∷ []
unfolding rankings put_somewhere refuted prefixes cuts no_ranking_keeps certificate_of certificates
certificates_of_bounded = refl

pub certificates_named_of_bounded : map (certificate_named bounded) (cuts bounded) ≡ 0 ∷ 0 ∷ 0 ∷ []
unfolding rankings put_somewhere refuted prefixes cuts no_ranking_keeps certificate_of certificates
certificates_named_of_bounded = refl

-- syllables: onset, no coda, no deletion, no insertion
abbrev pub syllables : Problem
syllables = record {
  constraints = 4;
  inputs =
      input_of ((1 ∷ 0 ∷ 0 ∷ 0 ∷ []) ∷ (0 ∷ 0 ∷ 0 ∷ 1 ∷ []) ∷ (0 ∷ 0 ∷ 1 ∷ 0 ∷ []) ∷ []) []
      ∷ input_of ((0 ∷ 1 ∷ 0 ∷ 0 ∷ []) ∷ (0 ∷ 0 ∷ 0 ∷ 1 ∷ []) ∷ (0 ∷ 0 ∷ 1 ∷ 0 ∷ []) ∷ []) [] ∷ [];
  given = None;
}

pub languages_of_syllables : languages syllables
    ≡ (0 ∷ 0 ∷ []) ∷ (0 ∷ 1 ∷ []) ∷ (0 ∷ 2 ∷ []) ∷ (1 ∷ 0 ∷ []) ∷ (1 ∷ 1 ∷ []) ∷ (2 ∷ 0 ∷ []) ∷ (2 ∷ 2 ∷ []) ∷ []
unfolding rankings put_somewhere languages choices refuted
languages_of_syllables = refl

pub cuts_of_syllables : cuts syllables ≡ (1 ∷ 2 ∷ []) ∷ (2 ∷ 1 ∷ []) ∷ []
unfolding rankings put_somewhere refuted prefixes cuts
cuts_of_syllables = refl

pub certificates_of_syllables : certificates syllables ≡ (t 0 1 2 ∷ t 1 2 1 ∷ []) ∷ (t 0 2 1 ∷ t 1 1 2 ∷ []) ∷ []
unfolding rankings put_somewhere refuted prefixes cuts no_ranking_keeps certificate_of certificates
certificates_of_syllables = refl

pub certificates_named_of_syllables : map (certificate_named syllables) (cuts syllables) ≡ 0 ∷ 1 ∷ []
unfolding rankings put_somewhere refuted prefixes cuts no_ranking_keeps certificate_of certificates
certificates_named_of_syllables = refl

-- entailment from two conditions, from one, and from none
pub entailed_by_two : entails 3 ((W ∷ L ∷ E ∷ []) ∷ (E ∷ W ∷ L ∷ []) ∷ []) (W ∷ E ∷ L ∷ []) ≡ true
unfolding rankings put_somewhere entails
entailed_by_two = refl

pub not_entailed_by_one : entails 3 ((W ∷ L ∷ E ∷ []) ∷ []) (E ∷ W ∷ L ∷ []) ≡ false
unfolding rankings put_somewhere entails
not_entailed_by_one = refl

pub even_entailed_by_none : entails 3 [] (E ∷ E ∷ E ∷ []) ≡ true
unfolding rankings put_somewhere entails
even_entailed_by_none = refl

pub loss_not_entailed_by_none : entails 3 [] (L ∷ E ∷ E ∷ []) ≡ false
unfolding rankings put_somewhere entails
loss_not_entailed_by_none = refl

pub all_entailed_by_a_contradiction : entails 2 ((W ∷ L ∷ []) ∷ (L ∷ W ∷ []) ∷ []) (L ∷ E ∷ []) ≡ true
unfolding rankings put_somewhere entails
all_entailed_by_a_contradiction = refl

-- a given pair leaves the languages of the rankings that keep it
abbrev pair : ℕ → ℕ → Pair
pair c d = record { above = c; below = d }

pub languages_with_a_pair : languages (with_given one_input (pair 0 1 ∷ [])) ≡ (1 ∷ []) ∷ (2 ∷ []) ∷ []
unfolding rankings put_somewhere languages choices refuted
languages_with_a_pair = refl

pub certificates_with_a_pair : certificates (with_given one_input (pair 0 1 ∷ pair 0 2 ∷ [])) ≡ (Given 0 ∷ t 0 0 1 ∷ []) ∷ []
unfolding rankings put_somewhere refuted prefixes cuts no_ranking_keeps certificate_of certificates
certificates_with_a_pair = refl

-- where no ranking keeps the given pairs, the empty prefix is the one cut
pub cuts_of_a_cycle : cuts (with_given two_inputs (pair 0 1 ∷ pair 1 0 ∷ [])) ≡ [] ∷ []
unfolding rankings put_somewhere refuted prefixes cuts
cuts_of_a_cycle = refl

pub certificates_of_a_cycle : certificates (with_given two_inputs (pair 0 1 ∷ pair 1 0 ∷ [])) ≡ (Given 0 ∷ Given 1 ∷ []) ∷ []
unfolding rankings put_somewhere refuted prefixes cuts no_ranking_keeps certificate_of certificates
certificates_of_a_cycle = refl
