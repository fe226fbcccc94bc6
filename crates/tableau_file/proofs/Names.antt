-- The columns of the first two lines.
use Rattle.std.proofs.Common.{◌≡◌, ℕ, ◌+◌, ◌<◌, ◌==◌, nat_lt, true, false, List, [], ◌∷◌, ◌++◌, length, map, take, drop, get_or, refl, ap, sym, ◌∙◌, arith}
use Rattle.std.specs.Prelude.{if◌then◌else◌}
use Rattle.std.specs.List.{list_any, zip}
use Rattle.std.proofs.lemmas.Bool.{ne_eqb, lt-ltb}
use Rattle.std.proofs.lemmas.List.FromFn.{map-range_with_len_more, length-map-range_with_len, get_or-map-range_with_len}
use Rattle.std.proofs.lemmas.List.{drop-drop, take_more, length-take-le}
use Rattle.std.proofs.lemmas.List.Folds.{list_any_at, list_any-append}
use Rattle.erc_vectors.specs.declared.condition.TheConstants.{LIMIT}
use Rattle.tab_cells.specs.Cells.{text_of}
use Rattle.tableau_file.specs.declared.Why.TheVariants.{EmptyName, TooManyConstraints}
use Rattle.tableau_file.specs.Rows.{cell, is_empty, constraint_cells, or_name}
use Rattle.tableau_file.specs.Faults.{fault, name_faults, IsFirst}
use Rattle.tableau_file.proofs.Columns.{first_left}
use Rattle.tableau_file.proofs.Tables.{length-constraint_cells}

-- the columns used so far, and one column more
abbrev pub use_column : ℕ → ℕ × List ℕ → ℕ
use_column used column = if is_empty column.1 then used else column.0

pub constraint_cells_more : (k : ℕ) (texts : List (List ℕ)) → constraint_cells (k + 1) texts ≡ constraint_cells k texts ++ cell texts (3 + k) ∷ []
constraint_cells_more k texts = map-range_with_len_more (cell texts) 3 k (3 + k) refl

pub empty_name : (k n : ℕ) (texts : List (List ℕ)) → k < n → is_empty (cell texts (3 + k)) ≡ true → list_any is_empty (constraint_cells n texts) ≡ true
empty_name k n texts within e =
    list_any_at is_empty (constraint_cells n texts) k [] (omega (arith, length-map-range_with_len (cell texts) 3 n))
    (ap is_empty (get_or-map-range_with_len (cell texts) 3 n k (3 + k) [] within refl) ∙ e)

pub too_many : (n : ℕ) (texts : List (List ℕ)) → LIMIT < n → IsFirst TooManyConstraints (name_faults n texts)
too_many n texts many =
    let some : (n == 0) ≡ false = ne_eqb n 0 (λ none. absurd (omega (arith, none))) in
    let long : nat_lt LIMIT n ≡ true = lt-ltb LIMIT n many in
    (fault (list_any is_empty (constraint_cells n texts)) EmptyName, rw (some, long) refl)

-- the text of the cell that is left after k constraints
pub name_left : (k : ℕ) (cells left : List (List ℕ)) → left ≡ drop (3 + k) cells → cell (map text_of left) 0 ≡ cell (map text_of cells) (3 + k)
name_left k cells left is = ap (λ cells. cell (map text_of cells) 0) is ∙ first_left (3 + k) cells

pub cells_next : (k : ℕ) (cells left next : List (List ℕ)) → left ≡ drop (3 + k) cells → next ≡ drop 1 left → next ≡ drop (3 + (k + 1)) cells
cells_next k cells left next is further = further ∙ ap (drop 1) is ∙ drop-drop 1 (3 + k) cells ∙ ap (λ n. drop n cells) (omega arith)

pub sound_more : (k : ℕ) (texts : List (List ℕ)) → list_any is_empty (constraint_cells k texts) ≡ false → is_empty (cell texts (3 + k)) ≡ false → list_any is_empty (constraint_cells (k + 1) texts) ≡ false
sound_more k texts before here =
    ap (list_any is_empty) (constraint_cells_more k texts)
    ∙ list_any-append is_empty (constraint_cells k texts) (cell texts (3 + k) ∷ [])
    ∙ rw (before, here) refl

abbrev pub each_or_name : List (List ℕ) → List (List ℕ) → List (List ℕ)
each_or_name texts names = map (λ pair. or_name pair.0 pair.1) (zip texts names)

or_name_push : (texts names : List (List ℕ)) (text name : List ℕ) → length texts ≡ length names → each_or_name (texts ++ text ∷ []) (names ++ name ∷ []) ≡ each_or_name texts names ++ or_name text name ∷ []
or_name_push [] [] text name same = refl
or_name_push [] (first ∷ names) text name same = absurd (omega (arith, same))
or_name_push (first ∷ texts) [] text name same = absurd (omega (arith, same))
or_name_push (first ∷ texts) (other ∷ names) text name same = ap (λ rest. or_name first other ∷ rest) (or_name_push texts names text name (omega (arith, same)))

pub or_name_more : (k : ℕ) (texts names : List (List ℕ)) (name : List ℕ) → k < length names → name ≡ get_or names k name
    → each_or_name (constraint_cells (k + 1) texts) (take (k + 1) names) ≡ each_or_name (constraint_cells k texts) (take k names) ++ or_name (cell texts (3 + k)) name ∷ []
or_name_more k texts names name within is =
    ap (λ texts. each_or_name texts (take (k + 1) names)) (constraint_cells_more k texts)
    ∙ ap (each_or_name (constraint_cells k texts ++ cell texts (3 + k) ∷ [])) (take_more names k name within ∙ ap (λ name. take k names ++ name ∷ []) (sym is))
    ∙ or_name_push (constraint_cells k texts) (take k names) (cell texts (3 + k)) name (length-constraint_cells k texts ∙ sym (length-take-le k names (omega arith)))
