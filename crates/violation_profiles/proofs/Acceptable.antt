-- An acceptable tableau poses a problem within the limits.
use Rattle.std.proofs.Common.{◌≡◌, ℕ, ◌<◌, List, [], ◌∷◌, Bool, Option, Some, None, IfSome, slice_index_or, refl, arith, length, map}
use Rattle.std.specs.Prelude.{find, position, option_and_then}
use Rattle.std.proofs.lemmas.List.{length-map}
use Rattle.std.proofs.lemmas.List.Elements.{All-map, All-nil, All-weaker}
use Rattle.std.proofs.lemmas.List.Quantifiers.{position-Some}
use Rattle.ot_theory.specs.Rankings.{numbers_below}
use Rattle.ot_theory.specs.Problems.{IsPair, classes_of, members_of, is_winning, same_profile, winner_of}
use Rattle.ot_theory.proofs.Classes.{AreClasses-classes_of}
use Rattle.ot_theory.proofs.Candidates.{length-classes_of, some-classes_of}
use Rattle.ot_base.specs.declared.tableau.Tableau.{Tableau}
use Rattle.ot_base.specs.declared.tableau.InputRows.{InputRows}
use Rattle.ot_base.specs.Tableaus.{problem_of, input_of_rows}
use Rattle.ot_base.specs.Acceptable.{IsAcceptable, AreRows}
use Rattle.violation_profiles.specs.WellFormed.{IsWellFormed, IsWellFormedInput}

within_some : {X : Type 0} (p : X → Bool) (xs : List X) (o : Option ℕ) → position p xs ≡ o → IfSome o (λ k. k < length xs)
within_some p xs None h = tt
within_some p (x ∷ xs) (Some k) h = (position-Some p (x ∷ xs) k x h).0
within_some p [] (Some k) h = absurd (cc)

-- the winner is one of the classes
winner_of-within : (profiles : List (List ℕ)) (counts : List ℕ) → IfSome (winner_of profiles counts) (λ a. a < length (classes_of profiles))
winner_of-within profiles counts = by (find (is_winning counts) (numbers_below (length counts)))
  where
    by : (o : Option ℕ) → IfSome (option_and_then (λ k. position (same_profile (slice_index_or profiles k [])) (classes_of profiles)) o) (λ a. a < length (classes_of profiles))
    by None = tt
    by (Some k) = within_some (same_profile (slice_index_or profiles k [])) (classes_of profiles) _ refl

IsWellFormed-rows : (n : ℕ) (rows : InputRows) → AreRows n rows → IsWellFormedInput n (input_of_rows rows)
IsWellFormed-rows n rows h =
    let profiles = map (λ row. row.violations) rows.candidates in
    let each = length-map rows.candidates (λ row. row.violations) in
    record {
      some = some-classes_of profiles (omega (arith, each, h.some_candidate));
      few = omega (arith, each, length-classes_of profiles, h.few_candidates);
      members = length-map (classes_of profiles) (members_of profiles);
      winner = winner_of-within profiles (map (λ row. row.count) rows.candidates);
      classes = AreClasses-classes_of n profiles (All-map (λ profile. length profile ≡ n) (λ row. row.violations) rows.candidates (λ k d below. (h.widths k d below).width));
    }

pub IsWellFormed-problem_of : (tableau : Tableau) → IsAcceptable tableau → IsWellFormed (problem_of tableau)
IsWellFormed-problem_of tableau h = record {
  constraints = h.few_names;
  inputs = omega (arith, length-map tableau.inputs input_of_rows, h.few_inputs);
  each =
      All-map (IsWellFormedInput (length tableau.names)) input_of_rows tableau.inputs
      (All-weaker (AreRows (length tableau.names)) (λ rows. IsWellFormedInput (length tableau.names) (input_of_rows rows)) (IsWellFormed-rows (length tableau.names)) tableau.inputs h.rows);
  few_pairs = omega arith;
  pairs = All-nil (IsPair (length tableau.names));
}
