-- What holds of every tableau that is read: where no row has a fault, the inputs stay within the limits.
use Rattle.std.proofs.Common.{◌≡◌, ℕ, suc, ◌+◌, ◌-◌, ◌<◌, ◌≤◌, ◌==◌, nat_le, Bool, true, false, not, ◌&&◌, ◌||◌, List, [], ◌∷◌, ◌++◌, length, drop, fold, slice_index_or, Ok, inl, inr, ap, sym, refl, subst, arith, ◌∙◌}
use Rattle.std.specs.Option.{option_map_or}
use Rattle.std.specs.Prelude.{if◌then◌else◌}
use Rattle.std.specs.List.{All, list_all, slice_get, zip}
use Rattle.std.proofs.lemmas.Bool.{cases_Bool, cases_lt, or_parts, and_parts, leb-true, leb-false, not-false}
use Rattle.std.proofs.lemmas.Bool.Decides.{eqb_tells}
use Rattle.std.proofs.lemmas.List.{length-map, length_push, nil_from_length}
use Rattle.std.proofs.lemmas.Slice.Zip.{length-zip}
use Rattle.std.proofs.lemmas.List.Elements.{All-nil, All-cons, All-head, All-tail, All-push, All-map, All-weaker}
use Rattle.std.proofs.lemmas.List.Sums.{sum_by-cons, AllPass-from_list_all}
use Rattle.ot_base.specs.declared.tableau.Tableau.{Tableau}
use Rattle.ot_base.specs.declared.tableau.InputRows.{InputRows}
use Rattle.ot_base.specs.declared.tableau.CandidateRow.{CandidateRow}
use Rattle.ot_base.specs.declared.limits.TheConstants.{INPUT_LIMIT, CANDIDATE_LIMIT, ROW_LIMIT, VIOLATION_LIMIT}
use Rattle.tableau_file.specs.declared.Why.TheVariants.{NoInput, TooManyInputs, EmptyCandidate, TooManyCandidates, BadCount, BadViolation, NoRows}
use Rattle.tableau_file.specs.declared.Why.{Why}
use Rattle.tableau_file.specs.declared.FileRefusal.{FileRefusal}
use Rattle.ot_base.specs.Acceptable.{IsRow, AreRows, IsAcceptable}
use Rattle.tableau_file.specs.Numbers.{is_short_number, value_of, is_violation, is_count}
use Rattle.tableau_file.specs.Rows.{cell, is_empty, constraint_cells, or_name, abbreviations_of, rows_from, candidate_of, input_begun, continues, with_row, inputs_of, tableau_of}
use Rattle.tableau_file.specs.Faults.{fault, current, begins_input, candidates_before, all_candidates, input_faults, candidate_faults, number_faults, row_faults, name_faults, abbreviation_faults, refusals_at, rows_refusals, refusals}
use Rattle.tableau_file.specs.Reading.{first_or, constraint_count, table_reading}
use Rattle.tableau_file.proofs.Tables.{length-constraint_cells, none_both, no-fault, named-sound}
use Rattle.tableau_file.proofs.RowRefusals.{refusals_after, rows_refusals-after, inputs_of-none}

-- inputs within the limits
record AreWithin (n : ℕ) (inputs : List InputRows) : Type 0 where
  few_inputs : length inputs ≤ INPUT_LIMIT
  few_rows : all_candidates inputs ≤ ROW_LIMIT
  rows : All (AreRows n) inputs

-- a row that may stand behind inputs
record Follows (n : ℕ) (inputs : List InputRows) (row : ℕ × List (List ℕ)) : Type 0 where
  few_inputs : begins_input inputs row.1 ≡ true → length inputs < INPUT_LIMIT
  few_candidates : candidates_before inputs row.1 < CANDIDATE_LIMIT
  few_rows : all_candidates inputs < ROW_LIMIT
  violations : list_all is_violation (constraint_cells n row.1) ≡ true

and_false : (a b : Bool) → (a && b) ≡ false → a ≡ true → b ≡ false
and_false true b none is = none
and_false false b none is = absurd (cc is)

follows-sound : (n : ℕ) (inputs : List InputRows) (row : ℕ × List (List ℕ)) → row_faults n inputs row.1 ≡ [] → Follows n inputs row
follows-sound n inputs row none =
    let cells = row.1 in
    let begins = begins_input inputs cells in
    let crowded = nat_le CANDIDATE_LIMIT (candidates_before inputs cells) || nat_le ROW_LIMIT (all_candidates inputs) in
    let violated = not (list_all is_violation (constraint_cells n cells)) in
    let halves = none_both (input_faults inputs cells ++ candidate_faults inputs cells) (number_faults n cells) none in
    let first = none_both (input_faults inputs cells) (candidate_faults inputs cells) halves.0 in
    let input = no-fault (begins && nat_le INPUT_LIMIT (length inputs)) TooManyInputs (none_both (fault (is_empty (cell cells 0) && (length inputs == 0)) NoInput) _ first.0).1 in
    let candidate = or_parts _ _ (no-fault crowded TooManyCandidates (none_both (fault (is_empty (cell cells 1)) EmptyCandidate) _ first.1).1) in
    let numbers = (none_both (fault (not (is_count (cell cells 2))) BadCount ++ fault violated BadViolation) _ halves.1).0 in
    record {
      few_inputs = λ is. leb-false INPUT_LIMIT (length inputs) (and_false begins _ input is);
      few_candidates = leb-false CANDIDATE_LIMIT _ candidate.0;
      few_rows = leb-false ROW_LIMIT _ candidate.1;
      violations = not-false _ (no-fault violated BadViolation (none_both (fault (not (is_count (cell cells 2))) BadCount) _ numbers).1);
    }

violation-le : (text : List ℕ) → is_violation text ≡ true → value_of text ≤ VIOLATION_LIMIT
violation-le text is = elim (eqb_tells (length text) 0) [
  | inl empty ↦ let none = nil_from_length text empty.1 in rw none (omega arith)
  | inr some ↦ leb-true (value_of text) VIOLATION_LIMIT (and_parts (is_short_number text) _ (rw some.0 at is)).1
]

row-violations : (n : ℕ) (row : ℕ × List (List ℕ)) → list_all is_violation (constraint_cells n row.1) ≡ true → IsRow n (candidate_of n row)
row-violations n row violations =
    let texts = constraint_cells n row.1 in
    record {
      width = length-map texts value_of ∙ length-constraint_cells n row.1;
      bounded = All-map (λ violation. violation ≤ VIOLATION_LIMIT) value_of texts (All-weaker (λ text. is_violation text ≡ true) (λ text. value_of text ≤ VIOLATION_LIMIT) violation-le texts (AllPass-from_list_all is_violation texts violations));
    }

current-next : (input next : InputRows) (inputs : List InputRows) → current (input ∷ next ∷ inputs) ≡ current (next ∷ inputs)
current-next input next inputs = let one : length (input ∷ next ∷ inputs) - 1 ≡ suc (length (next ∷ inputs) - 1) = omega arith in ap (slice_get (input ∷ next ∷ inputs)) one

begins-next : (input next : InputRows) (inputs : List InputRows) (cells : List (List ℕ)) → begins_input (input ∷ next ∷ inputs) cells ≡ begins_input (next ∷ inputs) cells
begins-next input next inputs cells = ap (λ last. option_map_or (λ input. not (continues input cells)) last (not (is_empty (cell cells 0)))) (current-next input next inputs)

before-next : (input next : InputRows) (inputs : List InputRows) (cells : List (List ℕ)) → candidates_before (input ∷ next ∷ inputs) cells ≡ candidates_before (next ∷ inputs) cells
before-next input next inputs cells = ap (λ last. option_map_or (λ input. if continues input cells then length input.candidates else 0) last 0) (current-next input next inputs)

length-begun : (n : ℕ) (inputs : List InputRows) (row : ℕ × List (List ℕ)) → length (with_row n inputs row) ≤ length inputs + 1
length-begun n [] row = omega arith
length-begun n (input ∷ []) row = elim (cases_Bool (continues input row.1)) [ inl same ↦ rw same (omega arith) | inr other ↦ rw other (omega arith) ]
length-begun n (input ∷ next ∷ inputs) row = omega (arith, length-begun n (next ∷ inputs) row)

length-continued : (n : ℕ) (input : InputRows) (inputs : List InputRows) (row : ℕ × List (List ℕ)) → begins_input (input ∷ inputs) row.1 ≡ false → length (with_row n (input ∷ inputs) row) ≡ length (input ∷ inputs)
length-continued n input [] row same = let goes_on = not-false (continues input row.1) same in rw goes_on refl
length-continued n input (next ∷ inputs) row same = ap suc (length-continued n next inputs row (sym (begins-next input next inputs row.1) ∙ same))

few-with_row : (n : ℕ) (inputs : List InputRows) (row : ℕ × List (List ℕ)) → Follows n inputs row → length inputs ≤ INPUT_LIMIT → length (with_row n inputs row) ≤ INPUT_LIMIT
few-with_row n [] row follows few = omega arith
few-with_row n (input ∷ inputs) row follows few = elim (cases_Bool (begins_input (input ∷ inputs) row.1)) [
  | inl begins ↦ omega (arith, length-begun n (input ∷ inputs) row, follows.few_inputs begins)
  | inr same ↦ omega (arith, length-continued n input inputs row same)
]

count-cons : (input : InputRows) (inputs : List InputRows) → all_candidates (input ∷ inputs) ≡ length input.candidates + all_candidates inputs
count-cons input inputs = sum_by-cons (λ input. length input.candidates) input inputs

count-with_row : (n : ℕ) (inputs : List InputRows) (row : ℕ × List (List ℕ)) → all_candidates (with_row n inputs row) ≡ all_candidates inputs + 1
count-with_row n [] row = refl
count-with_row n (input ∷ []) row = elim (cases_Bool (continues input row.1)) [
  | inl same ↦ rw same (omega (arith, length_push input.candidates (candidate_of n row)))
  | inr other ↦ rw other refl
]
count-with_row n (input ∷ next ∷ inputs) row =
    omega (arith, count-cons input (with_row n (next ∷ inputs) row), count-with_row n (next ∷ inputs) row, count-cons input (next ∷ inputs))

begun-rows : (n : ℕ) (row : ℕ × List (List ℕ)) → IsRow n (candidate_of n row) → AreRows n (input_begun n row)
begun-rows n row is = record { some_candidate = omega arith; few_candidates = omega arith; widths = All-cons (IsRow n) (candidate_of n row) [] is (All-nil (IsRow n)) }

longer-rows : (n : ℕ) (input : InputRows) (row : CandidateRow) → IsRow n row → length input.candidates < CANDIDATE_LIMIT → AreRows n input → AreRows n (record input { candidates = input.candidates ++ row ∷ [] })
longer-rows n input row is few rows = record {
  some_candidate = omega (arith, length_push input.candidates row);
  few_candidates = omega (arith, length_push input.candidates row);
  widths = All-push (IsRow n) input.candidates row rows.widths is;
}

rows-with_row : (n : ℕ) (inputs : List InputRows) (row : ℕ × List (List ℕ)) → IsRow n (candidate_of n row) → candidates_before inputs row.1 < CANDIDATE_LIMIT → All (AreRows n) inputs → All (AreRows n) (with_row n inputs row)
rows-with_row n [] row is few rows = All-cons (AreRows n) (input_begun n row) [] (begun-rows n row is) (All-nil (AreRows n))
rows-with_row n (input ∷ []) row is few rows =
    let first = All-head (AreRows n) input [] rows in
    elim (cases_Bool (continues input row.1)) [
      | inl same ↦
          let shorter : length input.candidates < CANDIDATE_LIMIT = rw same at few in
          rw same (All-cons (AreRows n) (record input { candidates = input.candidates ++ candidate_of n row ∷ [] }) [] (longer-rows n input (candidate_of n row) is shorter first) (All-nil (AreRows n)))
      | inr other ↦ rw other (All-cons (AreRows n) input (input_begun n row ∷ []) first (All-cons (AreRows n) (input_begun n row) [] (begun-rows n row is) (All-nil (AreRows n))))
    ]
rows-with_row n (input ∷ next ∷ inputs) row is few rows =
    All-cons (AreRows n) input (with_row n (next ∷ inputs) row) (All-head (AreRows n) input (next ∷ inputs) rows)
    (rows-with_row n (next ∷ inputs) row is (subst (λ count. count < CANDIDATE_LIMIT) (before-next input next inputs row.1) few) (All-tail (AreRows n) input (next ∷ inputs) rows))

within-with_row : (n : ℕ) (inputs : List InputRows) (row : ℕ × List (List ℕ)) → Follows n inputs row → AreWithin n inputs → AreWithin n (with_row n inputs row)
within-with_row n inputs row follows within = record {
  few_inputs = few-with_row n inputs row follows within.few_inputs;
  few_rows = omega (arith, count-with_row n inputs row, follows.few_rows);
  rows = rows-with_row n inputs row (row-violations n row follows.violations) follows.few_candidates within.rows;
}

no_refusals : (line : ℕ) (faults : List Why) → refusals_at line faults ≡ [] → faults ≡ []
no_refusals line [] none = refl
no_refusals line (why ∷ faults) none = absurd (cc none)

within-fold : (n : ℕ) (inputs : List InputRows) (rows : List (ℕ × List (List ℕ))) → refusals_after n inputs rows ≡ [] → AreWithin n inputs → AreWithin n (fold (with_row n) inputs rows)
unfolding refusals_after
within-fold n inputs [] none within = within
within-fold n inputs (row ∷ rows) none within =
    let halves = none_both (refusals_at row.0 (row_faults n inputs row.1)) (refusals_after n (with_row n inputs row) rows) none in
    let follows = follows-sound n inputs row (no_refusals row.0 (row_faults n inputs row.1) halves.0) in
    within-fold n (with_row n inputs row) rows halves.1 (within-with_row n inputs row follows within)

-- rows without a refusal make an input, and stay within the limits
record AreSound (n : ℕ) (rows : List (ℕ × List (List ℕ))) : Type 0 where
  some_input : 1 ≤ length (inputs_of n rows)
  within : AreWithin n (inputs_of n rows)

sound-rows : (n : ℕ) (rows : List (ℕ × List (List ℕ))) → rows_refusals n rows ≡ [] → AreSound n rows
unfolding inputs_of
sound-rows n rows none =
    let halves = none_both (refusals_at 3 (fault (length rows == 0) NoRows)) (refusals_after n [] rows) (sym (rows_refusals-after n rows) ∙ none) in
    let some = no-fault (length rows == 0) NoRows (no_refusals 3 (fault (length rows == 0) NoRows) halves.0) in
    record {
      some_input = elim (cases_lt 0 (length (inputs_of n rows))) [
        | inl more ↦ omega arith
        | inr no_input ↦ absurd (let empty = inputs_of-none n rows (omega arith) in let wrong = rw empty at some in cc)
      ];
      within = within-fold n [] rows halves.1 (record { few_inputs = omega arith; few_rows = omega arith; rows = All-nil (AreRows n) });
    }

first_or-ok : (refusals : List FileRefusal) (read tableau : Tableau) → first_or refusals read ≡ Ok tableau → (refusals ≡ []) × (read ≡ tableau)
first_or-ok [] read tableau is = (refl, cc is)
first_or-ok (refusal ∷ refusals) read tableau is = absurd (cc is)

length-abbreviations_of : (names : List (List ℕ)) (cells : List (List ℕ)) → length (abbreviations_of names cells) ≡ length names
length-abbreviations_of names cells =
    let texts = constraint_cells (length names) cells in
    length-map (zip texts names) (λ (pair : List ℕ × List ℕ). or_name pair.0 pair.1) ∙ length-zip texts names ∙ omega (arith, length-constraint_cells (length names) cells)

acceptable-sound : (n : ℕ) (table : List (List (List ℕ))) → refusals n table ≡ [] → IsAcceptable (tableau_of n table)
unfolding refusals tableau_of
acceptable-sound n table none =
    let first = slice_index_or table 0 [] in
    let names = constraint_cells n first in
    let rows = rows_from 3 (drop 2 table) in
    let halves = none_both (refusals_at 1 (name_faults n first) ++ refusals_at 2 (abbreviation_faults n (slice_index_or table 1 []))) (rows_refusals n rows) none in
    let named = named-sound n first (no_refusals 1 (name_faults n first) (none_both (refusals_at 1 (name_faults n first)) _ halves.0).0) in
    let sound = sound-rows n rows halves.1 in
    let width = length-constraint_cells n first in
    record {
      some_name = omega (arith, named.some);
      few_names = omega (arith, named.few);
      abbreviated = length-abbreviations_of names (slice_index_or table 1 []);
      some_input = sound.some_input;
      few_inputs = sound.within.few_inputs;
      few_rows = sound.within.few_rows;
      rows = subst (λ width. All (AreRows width) (inputs_of n rows)) (sym width) sound.within.rows;
    }

pub acceptable : (table : List (List (List ℕ))) (tableau : Tableau) → table_reading table ≡ Ok tableau → IsAcceptable tableau
unfolding table_reading
acceptable table tableau is =
    let n = constraint_count table in
    let parts = first_or-ok (refusals n table) (tableau_of n table) tableau is in
    subst IsAcceptable parts.1 (acceptable-sound n table parts.0)
