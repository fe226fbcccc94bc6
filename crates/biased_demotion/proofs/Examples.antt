-- A worked example: the definitions computed on two conditions of four constraints, of which the last two are faithfulness
-- constraints. Plain demotion places both of these first.
use Rattle.std.proofs.Common.{◌≡◌, ℕ, List, [], ◌∷◌, Bool, refl}
use Rattle.std.specs.Prelude.{true, false}
use Rattle.ot_theory.specs.declared.Mark.{Mark}
use Rattle.ot_theory.specs.declared.Mark.TheVariants.{W, L, E}
use Rattle.ot_theory.specs.Hierarchies.{in_stratum}
use Rattle.biased_demotion.specs.Biased.{free_markedness, active_faithfulness, free_constraints, freed, placed_above}
use Rattle.biased_demotion.specs.Measure.{r_measure}

abbrev set : List (List Mark)
set = (L ∷ E ∷ W ∷ E ∷ []) ∷ (E ∷ L ∷ W ∷ W ∷ []) ∷ []

abbrev faith : List Bool
faith = false ∷ false ∷ true ∷ true ∷ []

abbrev strata : List ℕ
strata = 2 ∷ 2 ∷ 1 ∷ 3 ∷ []

pub no_markedness_at_first : free_markedness faith (placed_above strata 1) set ≡ []
no_markedness_at_first = refl

pub both_active_at_first : active_faithfulness faith (placed_above strata 1) set ≡ 2 ∷ 3 ∷ []
both_active_at_first = refl

pub third_frees_two : freed faith (placed_above strata 1) set 2 ≡ 2
third_frees_two = refl

pub fourth_frees_one : freed faith (placed_above strata 1) set 3 ≡ 1
fourth_frees_one = refl

pub first_stratum : in_stratum strata 1 ≡ 2 ∷ []
first_stratum = refl

pub then_markedness : free_markedness faith (placed_above strata 2) set ≡ in_stratum strata 2
then_markedness = refl

pub then_none_active : active_faithfulness faith (placed_above strata 3) set ≡ []
then_none_active = refl

pub then_the_rest : free_constraints faith (placed_above strata 3) set ≡ in_stratum strata 3
then_the_rest = refl

pub measured : r_measure faith strata ≡ 2
measured = refl
