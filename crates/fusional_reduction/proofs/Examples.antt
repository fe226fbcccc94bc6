-- Worked examples: the definitions computed on small sets.
use Rattle.std.proofs.Common.{◌≡◌, List, [], ◌∷◌, refl}
use Rattle.std.specs.Prelude.{true, false}
use Rattle.ot_theory.specs.declared.Mark.{Mark}
use Rattle.ot_theory.specs.declared.Mark.TheVariants.{W, L, E}
use Rattle.ot_theory.specs.Rankings.{rankings, put_somewhere}
use Rattle.ot_theory.specs.Conditions.{fusion}
use Rattle.ot_theory.specs.Entailment.{entails}
use Rattle.fusional_reduction.specs.Nodes.{even_part, residue, is_kept, skeletal_form}
use Rattle.fusional_reduction.specs.Bases.{comes_before}

-- two conditions that ask for one ranking each of two constraints over the third
abbrev two_over_one : List (List Mark)
two_over_one = (W ∷ E ∷ L ∷ []) ∷ (E ∷ W ∷ L ∷ []) ∷ []

-- The residue of the whole set is the whole set, whose fusion entails itself.
pub residue_is_all : residue 3 two_over_one ≡ two_over_one
unfolding residue
residue_is_all = refl

pub fusion_is_dropped : is_kept 3 two_over_one ≡ false
unfolding residue is_kept entails rankings put_somewhere
fusion_is_dropped = refl

pub even_in_first : even_part 0 two_over_one ≡ (E ∷ W ∷ L ∷ []) ∷ []
even_in_first = refl

pub second_is_kept : is_kept 3 (even_part 0 two_over_one) ≡ true
unfolding residue is_kept entails rankings put_somewhere
second_is_kept = refl

pub first_is_kept : is_kept 3 (even_part 1 two_over_one) ≡ true
unfolding residue is_kept entails rankings put_somewhere
first_is_kept = refl

-- two conditions of one node
abbrev one_over_two : List (List Mark)
one_over_two = (W ∷ W ∷ L ∷ []) ∷ (W ∷ L ∷ W ∷ []) ∷ []

pub fusion_of_both : fusion 3 one_over_two ≡ W ∷ L ∷ L ∷ []
fusion_of_both = refl

pub both_are_kept : is_kept 3 one_over_two ≡ true
unfolding residue is_kept entails rankings put_somewhere
both_are_kept = refl

pub form_of_both : skeletal_form 3 one_over_two ≡ W ∷ L ∷ L ∷ []
unfolding residue skeletal_form
form_of_both = refl

-- three strata
abbrev three_strata : List (List Mark)
three_strata = (W ∷ L ∷ E ∷ []) ∷ (E ∷ W ∷ L ∷ []) ∷ []

pub fusion_of_strata : fusion 3 three_strata ≡ W ∷ L ∷ L ∷ []
fusion_of_strata = refl

pub strata_are_kept : is_kept 3 three_strata ≡ true
unfolding residue is_kept entails rankings put_somewhere
strata_are_kept = refl

-- The L that the residue's fusion has too becomes e.
pub form_of_strata : skeletal_form 3 three_strata ≡ W ∷ L ∷ E ∷ []
unfolding residue skeletal_form
form_of_strata = refl

pub in_order : comes_before (W ∷ L ∷ L ∷ []) (E ∷ W ∷ L ∷ []) ≡ true
in_order = refl

pub even_before_loss : comes_before (W ∷ E ∷ L ∷ []) (W ∷ L ∷ E ∷ []) ≡ true
even_before_loss = refl
