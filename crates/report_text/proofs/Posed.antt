-- The inputs of a tableau beside those of its problem, and the given pairs of a problem.
use Rattle.std.proofs.Common.{◌≡◌, ℕ, List, [], true, false, length, map, refl, ap, sym, ◌∙◌, inl, inr, Option, Some, None}
use Rattle.std.specs.Prelude.{is_some}
use Rattle.std.specs.Option.{option_map_or}
use Rattle.std.specs.List.{slice_get}
use Rattle.std.proofs.lemmas.Option.{slice_get-map}
use Rattle.std.proofs.lemmas.List.{length-map}
use Rattle.ot_base.specs.declared.tableau.Tableau.{Tableau}
use Rattle.ot_base.specs.declared.tableau.InputRows.{InputRows}
use Rattle.ot_base.specs.Tableaus.{problem_of, input_of_rows}
use Rattle.ot_theory.specs.Problems.{Pair, Problem, givens}
use Rattle.report_text.specs.Posed.{Poses}
use Rattle.report_text.specs.Reports.{given_lines, pair_lines}

pub input_at : (tableau : Tableau) (i : ℕ) (rows : InputRows) → slice_get tableau.inputs i ≡ Some rows → slice_get (problem_of tableau).inputs i ≡ Some (input_of_rows rows)
input_at tableau i rows there = rw (slice_get-map input_of_rows tableau.inputs i, there) refl

pub inputs-length : (tableau : Tableau) → length (problem_of tableau).inputs ≡ length tableau.inputs
inputs-length tableau = length-map tableau.inputs input_of_rows

-- with given pairs or without, the inputs are the same
pub posed-inputs : (tableau : Tableau) (problem : Problem) → Poses tableau problem → problem.inputs ≡ map input_of_rows tableau.inputs
posed-inputs tableau problem (inl same) = ap (λ (p : Problem). p.inputs) same
posed-inputs tableau problem (inr given) = ap (λ (p : Problem). p.inputs) given.1

-- ---- whether pairs were given
pub given_lines-none : (problem : Problem) → is_some problem.given ≡ false → given_lines problem ≡ []
given_lines-none problem h = by problem problem.given refl h
  where
    by : (p : Problem) (given : Option (List Pair)) → p.given ≡ given → is_some given ≡ false → given_lines p ≡ []
    by p None same h = ap (λ (o : Option (List Pair)). option_map_or pair_lines o []) same
    by p (Some pairs) same h = absurd (cc)

pub given_lines-some : (problem : Problem) → is_some problem.given ≡ true → given_lines problem ≡ pair_lines (givens problem)
given_lines-some problem h = by problem problem.given refl h
  where
    by : (p : Problem) (given : Option (List Pair)) → p.given ≡ given → is_some given ≡ true → given_lines p ≡ pair_lines (givens p)
    by p None same h = absurd (cc)
    by p (Some pairs) same h = ap (λ (o : Option (List Pair)). option_map_or pair_lines o []) same ∙ sym (ap (λ (o : Option (List Pair)). pair_lines (option_map_or (λ l. l) o [])) same)
