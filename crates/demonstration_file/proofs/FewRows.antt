-- Rows that are sound by themselves, and few, have no refusal.
use Rattle.std.proofs.Common.{◌≡◌, ℕ, suc, ◌+◌, ◌-◌, ◌<◌, ◌≤◌, ◌==◌, true, false, ◌&&◌, List, [], ◌∷◌, length, slice_get, arith, inl, inr, refl, ap, ◌∙◌}
use Rattle.std.specs.Prelude.{nat_le, if◌then◌else◌}
use Rattle.std.specs.Option.{option_map_or}
use Rattle.std.specs.List.{All, list_all}
use Rattle.std.proofs.lemmas.Bool.{cases_Bool, and_right}
use Rattle.std.proofs.lemmas.Bool.Decides.{nat_tests}
use Rattle.std.proofs.lemmas.List.{length_push}
use Rattle.std.proofs.lemmas.List.Elements.{All-cons, All-head, All-nil, All-tail}
use Rattle.std.proofs.lemmas.List.Sums.{sum_by-cons}
use Rattle.ot_base.specs.declared.tableau.InputRows.{InputRows}
use Rattle.ot_base.specs.declared.limits.TheConstants.{INPUT_LIMIT, CANDIDATE_LIMIT, ROW_LIMIT}
use Rattle.tableau_file.specs.Numbers.{is_count, is_violation}
use Rattle.tableau_file.specs.Rows.{cell, is_empty, is_blank, constraint_cells, rows_from, candidate_of, continues, with_row}
use Rattle.tableau_file.specs.Faults.{has_extra, current, begins_input, candidates_before, all_candidates, row_faults, rows_refusals}
use Rattle.tableau_file.proofs.RowRefusals.{refusals_after, refusals_after-none, refusals_after-sound, rows_refusals-some}

-- a row without a fault of its own, of n constraints
pub record IsSoundRow (n : ℕ) (cells : List (List ℕ)) : Type 0 where
  pub candidate : is_empty (cell cells 1) ≡ false
  pub count : is_count (cell cells 2) ≡ true
  pub violations : list_all is_violation (constraint_cells n cells) ≡ true
  pub extra : has_extra n cells ≡ false

abbrev AreSoundRows : ℕ → List (ℕ × List (List ℕ)) → Type 0
AreSoundRows n rows = All (λ row. IsSoundRow n row.1) rows

-- ---- how many inputs and candidates there are
length-with_row : (n : ℕ) (inputs : List InputRows) (row : ℕ × List (List ℕ)) → length (with_row n inputs row) ≤ length inputs + 1
length-with_row n [] row = omega arith
length-with_row n (input ∷ []) row = elim (cases_Bool (continues input row.1)) [ inl same ↦ rw same (omega arith) | inr other ↦ rw other (omega arith) ]
length-with_row n (input ∷ next ∷ inputs) row = omega (arith, length-with_row n (next ∷ inputs) row)

some-with_row : (n : ℕ) (inputs : List InputRows) (row : ℕ × List (List ℕ)) → 1 ≤ length (with_row n inputs row)
some-with_row n [] row = omega arith
some-with_row n (input ∷ []) row = elim (cases_Bool (continues input row.1)) [ inl same ↦ rw same (omega arith) | inr other ↦ rw other (omega arith) ]
some-with_row n (input ∷ next ∷ inputs) row = omega (arith, some-with_row n (next ∷ inputs) row)

count-cons : (input : InputRows) (inputs : List InputRows) → all_candidates (input ∷ inputs) ≡ length input.candidates + all_candidates inputs
count-cons input inputs = sum_by-cons (λ input. length input.candidates) input inputs

count-with_row : (n : ℕ) (inputs : List InputRows) (row : ℕ × List (List ℕ)) → all_candidates (with_row n inputs row) ≡ all_candidates inputs + 1
count-with_row n [] row = refl
count-with_row n (input ∷ []) row = elim (cases_Bool (continues input row.1)) [
  | inl same ↦ rw same (omega (arith, length_push input.candidates (candidate_of n row)))
  | inr other ↦ rw other refl
]
count-with_row n (input ∷ next ∷ inputs) row =
    omega (arith, count-cons input (with_row n (next ∷ inputs) row), count-with_row n (next ∷ inputs) row, count-cons input (next ∷ inputs))

current-next : (input next : InputRows) (inputs : List InputRows) → current (input ∷ next ∷ inputs) ≡ current (next ∷ inputs)
current-next input next inputs =
    let one : length (input ∷ next ∷ inputs) - 1 ≡ suc (length (next ∷ inputs) - 1) = omega arith in
    ap (slice_get (input ∷ next ∷ inputs)) one

-- an input has at most all candidates
before-le : (inputs : List InputRows) (cells : List (List ℕ)) → candidates_before inputs cells ≤ all_candidates inputs
before-le [] cells = omega arith
before-le (input ∷ []) cells = elim (cases_Bool (continues input cells)) [
  | inl same ↦ rw same (omega (arith, count-cons input []))
  | inr other ↦ rw other (omega arith)
]
before-le (input ∷ next ∷ inputs) cells =
    let same : candidates_before (input ∷ next ∷ inputs) cells ≡ candidates_before (next ∷ inputs) cells =
    ap (λ last. option_map_or (λ input. if continues input cells then length input.candidates else 0) last 0) (current-next input next inputs)
    in
    omega (arith, same, before-le (next ∷ inputs) cells, count-cons input (next ∷ inputs))

-- ---- one row
-- few inputs and candidates, and one more row that may follow them
record Follows (inputs : List InputRows) (cells : List (List ℕ)) : Type 0 where
  input : (is_empty (cell cells 0) && (length inputs == 0)) ≡ false
  few_inputs : length inputs < 200
  few_candidates : all_candidates inputs < 200

limit_inputs : (m : ℕ) → m < 200 → nat_le INPUT_LIMIT m ≡ false
limit_inputs m few = grind (arith, nat_tests)

limit_candidates : (m : ℕ) → m < 200 → nat_le CANDIDATE_LIMIT m ≡ false
limit_candidates m few = grind (arith, nat_tests)

limit_rows : (m : ℕ) → m < 200 → nat_le ROW_LIMIT m ≡ false
limit_rows m few = grind (arith, nat_tests)

sound-row : (n : ℕ) (inputs : List InputRows) (cells : List (List ℕ)) → IsSoundRow n cells → Follows inputs cells → row_faults n inputs cells ≡ []
sound-row n inputs cells sound follows =
    let crowded : nat_le CANDIDATE_LIMIT (candidates_before inputs cells) ≡ false = limit_candidates (candidates_before inputs cells) (omega (arith, before-le inputs cells, follows.few_candidates)) in
    let full : nat_le ROW_LIMIT (all_candidates inputs) ≡ false = limit_rows (all_candidates inputs) follows.few_candidates in
    let begun : (begins_input inputs cells && nat_le INPUT_LIMIT (length inputs)) ≡ false = and_right (begins_input inputs cells) (nat_le INPUT_LIMIT (length inputs)) (limit_inputs (length inputs) follows.few_inputs) in
    rw (follows.input, begun, sound.candidate, crowded, full, sound.count, sound.violations, sound.extra) refl

-- ---- all rows
some_input : (inputs : List InputRows) (cells : List (List ℕ)) → 1 ≤ length inputs → (is_empty (cell cells 0) && (length inputs == 0)) ≡ false
some_input inputs cells some =
    let none : (length inputs == 0) ≡ false = grind (arith, nat_tests) in
    and_right (is_empty (cell cells 0)) (length inputs == 0) none

few-behind : (n : ℕ) (inputs : List InputRows) (rows : List (ℕ × List (List ℕ))) → AreSoundRows n rows → 1 ≤ length inputs → length inputs + length rows ≤ 200 → all_candidates inputs + length rows ≤ 200
    → refusals_after n inputs rows ≡ []
few-behind n inputs [] sound some few short = refusals_after-none n inputs
few-behind n inputs (row ∷ rows) sound some few short =
    let here = All-head (λ row. IsSoundRow n row.1) row rows sound in
    let rest = All-tail (λ row. IsSoundRow n row.1) row rows sound in
    let follows : Follows inputs row.1 = record { input = some_input inputs row.1 some; few_inputs = omega (arith, few); few_candidates = omega (arith, short) } in
    refusals_after-sound n inputs row rows (sound-row n inputs row.1 here follows)
    ∙ few-behind n (with_row n inputs row) rows rest (some-with_row n inputs row) (omega (arith, few, length-with_row n inputs row)) (omega (arith, short, count-with_row n inputs row))

few-first : (n : ℕ) (row : ℕ × List (List ℕ)) (rows : List (ℕ × List (List ℕ))) → AreSoundRows n (row ∷ rows) → is_empty (cell row.1 0) ≡ false → length (row ∷ rows) ≤ 200
    → refusals_after n [] (row ∷ rows) ≡ []
few-first n row rows sound begins few =
    let here = All-head (λ row. IsSoundRow n row.1) row rows sound in
    let rest = All-tail (λ row. IsSoundRow n row.1) row rows sound in
    let follows : Follows [] row.1 = record { input = rw begins refl; few_inputs = omega arith; few_candidates = omega arith } in
    refusals_after-sound n [] row rows (sound-row n [] row.1 here follows)
    ∙ few-behind n (with_row n [] row) rows rest (some-with_row n [] row) (omega (arith, few, length-with_row n [] row)) (omega (arith, few, count-with_row n [] row))

-- ---- the rows of lines
sound-rows_from : (n number : ℕ) (lines : List (List (List ℕ))) → All (IsSoundRow n) lines → AreSoundRows n (rows_from number lines)
sound-rows_from n number [] sound = All-nil (λ (row : ℕ × List (List ℕ)). IsSoundRow n row.1)
sound-rows_from n number (line ∷ lines) sound =
    let rest = sound-rows_from n (number + 1) lines (All-tail (IsSoundRow n) line lines sound) in
    elim (cases_Bool (is_blank line)) [
      | inl blank ↦ rw blank rest
      | inr row ↦ rw row (All-cons (λ (row : ℕ × List (List ℕ)). IsSoundRow n row.1) (number, line) (rows_from (number + 1) lines) (All-head (IsSoundRow n) line lines sound) rest)
    ]

length-rows_from : (number : ℕ) (lines : List (List (List ℕ))) → length (rows_from number lines) ≤ length lines
length-rows_from number [] = omega arith
length-rows_from number (line ∷ lines) = elim (cases_Bool (is_blank line)) [
  | inl blank ↦ rw blank (omega (arith, length-rows_from (number + 1) lines))
  | inr row ↦ rw row (omega (arith, length-rows_from (number + 1) lines))
]

not_blank : (line : List (List ℕ)) → is_empty (cell line 0) ≡ false → is_blank line ≡ false
not_blank [] begins = absurd (cc begins)
not_blank (text ∷ texts) begins = rw begins refl

some_row : (row : ℕ × List (List ℕ)) (rows : List (ℕ × List (List ℕ))) → (length (row ∷ rows) == 0) ≡ false
some_row row rows = grind (arith, nat_tests)

-- At most 200 lines, of which the first begins an input, have no refusal where each is sound.
pub few-sound : (n : ℕ) (line : List (List ℕ)) (lines : List (List (List ℕ))) → All (IsSoundRow n) (line ∷ lines) → is_empty (cell line 0) ≡ false → length (line ∷ lines) ≤ 200
    → rows_refusals n (rows_from 3 (line ∷ lines)) ≡ []
few-sound n line lines sound begins few =
    let first : rows_from 3 (line ∷ lines) ≡ (3, line) ∷ rows_from 4 lines = rw (not_blank line begins) refl in
    let rows = sound-rows_from n 3 (line ∷ lines) sound in
    ap (rows_refusals n) first
    ∙ rows_refusals-some n ((3, line) ∷ rows_from 4 lines) (some_row (3, line) (rows_from 4 lines))
    ∙ few-first n (3, line) (rows_from 4 lines) (rw first at rows) begins (omega (arith, few, length-rows_from 4 lines))
