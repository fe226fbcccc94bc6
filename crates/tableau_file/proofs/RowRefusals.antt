-- The refusals of candidate rows, one row after another.
use Rattle.std.proofs.Common.{◌≡◌, ℕ, ◌+◌, ◌≤◌, ◌==◌, true, false, List, [], ◌∷◌, ◌++◌, length, fold, take, refl, ap, sym, ◌∙◌, append_assoc, arith, inl, inr}
use Rattle.std.specs.List.{flat_map, range_with_len}
use Rattle.std.proofs.Math.Seq.{take-append_seam, get_or-append_seam}
use Rattle.std.proofs.lemmas.Bool.{cases_Bool}
use Rattle.std.proofs.lemmas.Bool.Decides.{eqb_tells}
use Rattle.std.proofs.lemmas.List.{length_push}
use Rattle.std.proofs.lemmas.List.Sums.{fold-append}
use Rattle.ot_base.specs.declared.tableau.InputRows.{InputRows}
use Rattle.tableau_file.specs.declared.FileRefusal.{FileRefusal}
use Rattle.tableau_file.specs.declared.Why.{Why}
use Rattle.tableau_file.specs.declared.Why.TheVariants.{NoRows}
use Rattle.tableau_file.specs.Rows.{is_blank, continues, with_row, rows_from, inputs_of}
use Rattle.tableau_file.specs.Faults.{fault, row_faults, refusals_at, row_refusals, rows_refusals, IsFirst}

-- the refusals of rows behind inputs
unfoldable pub refusals_after : ℕ → List InputRows → List (ℕ × List (List ℕ)) → List FileRefusal
refusals_after n inputs [] = []
refusals_after n inputs (row ∷ rows) = refusals_at row.0 (row_faults n inputs row.1) ++ refusals_after n (with_row n inputs row) rows

pub refusals_after-none : (n : ℕ) (inputs : List InputRows) → refusals_after n inputs [] ≡ []
unfolding refusals_after
refusals_after-none n inputs = refl

-- a row without a fault
pub refusals_after-sound : (n : ℕ) (inputs : List InputRows) (row : ℕ × List (List ℕ)) (rows : List (ℕ × List (List ℕ)))
    → row_faults n inputs row.1 ≡ [] → refusals_after n inputs (row ∷ rows) ≡ refusals_after n (with_row n inputs row) rows
unfolding refusals_after
refusals_after-sound n inputs row rows sound = ap (λ faults. refusals_at row.0 faults ++ refusals_after n (with_row n inputs row) rows) sound

-- the first fault of a row
pub refusals_after-first : (n : ℕ) (inputs : List InputRows) (row : ℕ × List (List ℕ)) (rows : List (ℕ × List (List ℕ))) (why : Why)
    → IsFirst why (row_faults n inputs row.1) → IsFirst (record { line = row.0; why = why }) (refusals_after n inputs (row ∷ rows))
unfolding refusals_after
refusals_after-first n inputs row rows why first =
    (refusals_at row.0 first.0 ++ refusals_after n (with_row n inputs row) rows, ap (λ faults. refusals_at row.0 faults ++ refusals_after n (with_row n inputs row) rows) first.1)

inputs_of-more : (n : ℕ) (rows : List (ℕ × List (List ℕ))) (row : ℕ × List (List ℕ)) → inputs_of n (rows ++ row ∷ []) ≡ with_row n (inputs_of n rows) row
unfolding inputs_of
inputs_of-more n rows row = fold-append (with_row n) [] rows (row ∷ [])

-- the row behind others has the refusals behind their inputs
row_refusals-seam : (n : ℕ) (front : List (ℕ × List (List ℕ))) (row : ℕ × List (List ℕ)) (rest : List (ℕ × List (List ℕ)))
    → row_refusals n (front ++ row ∷ rest) (length front) ≡ refusals_at row.0 (row_faults n (inputs_of n front) row.1)
row_refusals-seam n front row rest =
    ap (λ (at : ℕ × List (List ℕ)). refusals_at at.0 (row_faults n (inputs_of n (take (length front) (front ++ row ∷ rest))) at.1)) (get_or-append_seam front row rest (0, []))
    ∙ ap (λ rows. refusals_at row.0 (row_faults n (inputs_of n rows) row.1)) (take-append_seam front (row ∷ rest))

refusals_after-rest : (n : ℕ) (front rest : List (ℕ × List (List ℕ)))
    → flat_map (row_refusals n (front ++ rest)) (range_with_len (length front) (length rest)) ≡ refusals_after n (inputs_of n front) rest
unfolding refusals_after
refusals_after-rest n front [] = refl
refusals_after-rest n front (row ∷ rest) =
    let longer : (front ++ row ∷ []) ++ rest ≡ front ++ row ∷ rest = append_assoc front (row ∷ []) rest in
    let next = refusals_after-rest n (front ++ row ∷ []) rest in
    ap (λ refusals. refusals ++ flat_map (row_refusals n (front ++ row ∷ rest)) (range_with_len (length front + 1) (length rest))) (row_refusals-seam n front row rest)
    ∙ ap (λ refusals. refusals_at row.0 (row_faults n (inputs_of n front) row.1) ++ refusals)
    (ap (λ k. flat_map (row_refusals n (front ++ row ∷ rest)) (range_with_len k (length rest))) (sym (length_push front row))
    ∙ ap (λ rows. flat_map (row_refusals n rows) (range_with_len (length (front ++ row ∷ [])) (length rest))) (sym longer)
    ∙ next
    ∙ ap (λ inputs. refusals_after n inputs rest) (inputs_of-more n front row))

pub rows_refusals-after : (n : ℕ) (rows : List (ℕ × List (List ℕ))) → rows_refusals n rows ≡ refusals_at 3 (fault (length rows == 0) NoRows) ++ refusals_after n [] rows
unfolding rows_refusals inputs_of
rows_refusals-after n rows = ap (λ refusals. refusals_at 3 (fault (length rows == 0) NoRows) ++ refusals) (refusals_after-rest n [] rows)

some_row : (row : ℕ × List (List ℕ)) (rows : List (ℕ × List (List ℕ))) → (length (row ∷ rows) == 0) ≡ false
some_row row rows = elim (eqb_tells (length (row ∷ rows)) 0) [ inl none ↦ absurd (omega (arith, none.1)) | inr some ↦ some.0 ]

-- with a row, the refusals are those of the rows alone
pub rows_refusals-some : (n : ℕ) (rows : List (ℕ × List (List ℕ))) → (length rows == 0) ≡ false → rows_refusals n rows ≡ refusals_after n [] rows
rows_refusals-some n rows some = rows_refusals-after n rows ∙ ap (λ none. refusals_at 3 (fault none NoRows) ++ refusals_after n [] rows) some

pub rows_refusals-none : (n : ℕ) (rows : List (ℕ × List (List ℕ))) → rows ≡ [] → IsFirst (record { line = 3; why = NoRows }) (rows_refusals n rows)
unfolding rows_refusals
rows_refusals-none n rows none = rw none ([], refl)

-- the first refusal of a row is the first of all
pub rows_refusals-first : (n : ℕ) (rows : List (ℕ × List (List ℕ))) (refusal : FileRefusal) → IsFirst refusal (refusals_after n [] rows) → IsFirst refusal (rows_refusals n rows)
unfolding refusals_after
rows_refusals-first n [] refusal first = absurd (let none = first.1 in cc)
rows_refusals-first n (row ∷ rows) refusal first = (first.0, rows_refusals-some n (row ∷ rows) (some_row row rows) ∙ first.1)

with_row-some : (n : ℕ) (inputs : List InputRows) (row : ℕ × List (List ℕ)) → 1 ≤ length (with_row n inputs row)
with_row-some n [] row = omega arith
with_row-some n (input ∷ []) row = elim (cases_Bool (continues input row.1)) [ inl same ↦ rw same (omega arith) | inr other ↦ rw other (omega arith) ]
with_row-some n (input ∷ next ∷ inputs) row = omega (arith, with_row-some n (next ∷ inputs) row)

fold-some : (n : ℕ) (inputs : List InputRows) (rows : List (ℕ × List (List ℕ))) → 1 ≤ length inputs → 1 ≤ length (fold (with_row n) inputs rows)
fold-some n inputs [] some = some
fold-some n inputs (row ∷ rows) some = fold-some n (with_row n inputs row) rows (with_row-some n inputs row)

-- there are inputs exactly where there are rows
pub inputs_of-none : (n : ℕ) (rows : List (ℕ × List (List ℕ))) → length (inputs_of n rows) ≡ 0 → rows ≡ []
unfolding inputs_of
inputs_of-none n [] none = refl
inputs_of-none n (row ∷ rows) none = absurd (omega (arith, fold-some n (with_row n [] row) rows (with_row-some n [] row)))

pub inputs_of-some : (n : ℕ) (rows : List (ℕ × List (List ℕ))) → (length (inputs_of n rows) ≡ 0 → ⊥) → (length rows == 0) ≡ false
unfolding inputs_of
inputs_of-some n [] some = absurd (some refl)
inputs_of-some n (row ∷ rows) some = some_row row rows

-- Lines that are left, behind the inputs so far, give the inputs and the refusals of all rows.
pub record LeavesAll (n : ℕ) (inputs : List InputRows) (number : ℕ) (lines : List (List (List ℕ))) (rows : List (ℕ × List (List ℕ))) : Type 0 where
  pub inputs_left : fold (with_row n) inputs (rows_from number lines) ≡ inputs_of n rows
  pub refusals_left : refusals_after n inputs (rows_from number lines) ≡ refusals_after n [] rows

pub left-all : (n : ℕ) (lines : List (List (List ℕ))) → LeavesAll n [] 3 lines (rows_from 3 lines)
unfolding inputs_of
left-all n lines = record { inputs_left = refl; refusals_left = refl }

pub blank-row : (number : ℕ) (line : List (List ℕ)) (lines : List (List (List ℕ))) → is_blank line ≡ true → rows_from number (line ∷ lines) ≡ rows_from (number + 1) lines
blank-row number line lines blank = rw blank refl

pub left-blank : (n : ℕ) (inputs : List InputRows) (number : ℕ) (line : List (List ℕ)) (lines : List (List (List ℕ))) (rows : List (ℕ × List (List ℕ)))
    → is_blank line ≡ true → LeavesAll n inputs number (line ∷ lines) rows → LeavesAll n inputs (number + 1) lines rows
left-blank n inputs number line lines rows blank left =
    let same = blank-row number line lines blank in
    record {
      inputs_left = ap (fold (with_row n) inputs) (sym same) ∙ left.inputs_left;
      refusals_left = ap (refusals_after n inputs) (sym same) ∙ left.refusals_left;
    }

pub first-row : (number : ℕ) (line : List (List ℕ)) (lines : List (List (List ℕ))) → is_blank line ≡ false → rows_from number (line ∷ lines) ≡ (number, line) ∷ rows_from (number + 1) lines
first-row number line lines row = rw row refl

pub left-sound : (n : ℕ) (inputs : List InputRows) (number : ℕ) (line : List (List ℕ)) (lines : List (List (List ℕ))) (rows : List (ℕ × List (List ℕ)))
    → is_blank line ≡ false → row_faults n inputs line ≡ [] → LeavesAll n inputs number (line ∷ lines) rows → LeavesAll n (with_row n inputs (number, line)) (number + 1) lines rows
left-sound n inputs number line lines rows row sound left =
    let first = first-row number line lines row in
    record {
      inputs_left = ap (fold (with_row n) inputs) (sym first) ∙ left.inputs_left;
      refusals_left = sym (refusals_after-sound n inputs (number, line) (rows_from (number + 1) lines) sound) ∙ ap (refusals_after n inputs) (sym first) ∙ left.refusals_left;
    }

-- the first fault of a line gives the first refusal of all rows
pub left-fault : (n : ℕ) (inputs : List InputRows) (number : ℕ) (line : List (List ℕ)) (lines : List (List (List ℕ))) (rows : List (ℕ × List (List ℕ))) (refusal : FileRefusal)
    → is_blank line ≡ false → refusal.line ≡ number → IsFirst refusal.why (row_faults n inputs line) → LeavesAll n inputs number (line ∷ lines) rows → IsFirst refusal (rows_refusals n rows)
left-fault n inputs number line lines rows refusal row at fault left =
    let first = refusals_after-first n inputs (number, line) (rows_from (number + 1) lines) refusal.why fault in
    let same : record { line = number; why = refusal.why } ≡ refusal = ap (λ line. record { line = line; why = refusal.why }) (sym at) in
    rows_refusals-first n rows refusal (first.0, sym left.refusals_left ∙ ap (refusals_after n inputs) (first-row number line lines row) ∙ first.1 ∙ ap (λ refusal. refusal ∷ first.0) same)

pub left-some : (n : ℕ) (inputs : List InputRows) (number : ℕ) (rows : List (ℕ × List (List ℕ))) → LeavesAll n inputs number [] rows → (length inputs ≡ 0 → ⊥) → rows_refusals n rows ≡ []
left-some n inputs number rows left some =
    rows_refusals-some n rows (inputs_of-some n rows (λ none. some (ap length left.inputs_left ∙ none)))
    ∙ sym left.refusals_left ∙ refusals_after-none n inputs

pub left-none : (n : ℕ) (inputs : List InputRows) (number : ℕ) (rows : List (ℕ × List (List ℕ))) → LeavesAll n inputs number [] rows → length inputs ≡ 0 → IsFirst (record { line = 3; why = NoRows }) (rows_refusals n rows)
left-none n inputs number rows left none = rows_refusals-none n rows (inputs_of-none n rows (ap length (sym left.inputs_left) ∙ none))
