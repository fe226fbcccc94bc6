-- The texts in the columns of a line, one after another.
use denote.Ref.{Bor}
use Rattle.std.proofs.Common.{◌≡◌, ℕ, zero, suc, ◌+◌, ◌<◌, Bool, false, not, Option, Some, None, MatchOption, List, [], ◌∷◌, ◌++◌, map, drop, ap, sym, ◌∙◌, refl, inl, inr, add-zero, arith}
use Rattle.std.specs.List.{list_any, list_all, range_with_len}
use Rattle.std.proofs.lemmas.Bool.{cases_Bool}
use Rattle.std.proofs.lemmas.List.{get_or-drop, drop-drop, drop-map}
use Rattle.std.proofs.lemmas.List.FromFn.{map-range_with_len_more, length-map-range_with_len, get_or-map-range_with_len}
use Rattle.std.proofs.lemmas.List.Folds.{list_all_at}
use Rattle.ot_theory.proofs.Enumeration.{any-map}
use Rattle.tab_cells.specs.Cells.{cells_of, text_of}
use Rattle.tableau_file.specs.Rows.{texts_of, cell, is_empty, constraint_cells, is_blank}
use Rattle.tableau_file.specs.Faults.{has_extra}

-- what is left after one turn of the iterator
pub rest_next : (next : Option (Bor (List ℕ))) (old new : List (List ℕ)) → MatchOption next ((old ≡ []) × (new ≡ [])) (λ first. old ≡ first.now ∷ new) → new ≡ drop 1 old
rest_next None old new h = h.1 ∙ sym (ap (drop 1) h.0)
rest_next (Some first) old new h = sym (ap (drop 1) h)

pub first_left : (k : ℕ) (cells : List (List ℕ)) → cell (map text_of (drop k cells)) 0 ≡ cell (map text_of cells) k
first_left k cells = ap (λ texts. cell texts 0) (sym (drop-map text_of k cells)) ∙ get_or-drop k (map text_of cells) 0 [] ∙ ap (cell (map text_of cells)) (add-zero k)

-- the texts of the first two cells, and what is left of a line behind them
pub input_left : (cells : List (List ℕ)) (line : List ℕ) → cells ≡ cells_of line → cell (map text_of cells) 0 ≡ cell (texts_of line) 0
input_left cells line is = ap (λ cells. cell (map text_of cells) 0) is

pub candidate_left : (cells next : List (List ℕ)) (line : List ℕ) → cells ≡ cells_of line → next ≡ drop 1 cells → cell (map text_of next) 0 ≡ cell (texts_of line) 1
candidate_left cells next line is rest = ap (λ cells. cell (map text_of cells) 0) (rest ∙ ap (drop 1) is) ∙ first_left 1 (cells_of line)

pub numbers_left : (cells next last : List (List ℕ)) (line : List ℕ) → cells ≡ cells_of line → next ≡ drop 1 cells → last ≡ drop 1 next → last ≡ drop 2 (cells_of line)
numbers_left cells next last line is rest further = further ∙ ap (drop 1) (rest ∙ ap (drop 1) is) ∙ drop-drop 1 1 (cells_of line)

-- the cells from the third on, of which the first is the count, and those behind it
pub third_left : (cells all : List (List ℕ)) → cells ≡ drop 2 all → cell (map text_of cells) 0 ≡ cell (map text_of all) 2
third_left cells all is = ap (λ cells. cell (map text_of cells) 0) is ∙ first_left 2 all

pub fourth_left : (cells next all : List (List ℕ)) → cells ≡ drop 2 all → next ≡ drop 1 cells → next ≡ drop 3 all
fourth_left cells next all is rest = rest ∙ ap (drop 1) is ∙ drop-drop 1 2 all

columns-drop : (k a n : ℕ) (texts : List (List ℕ)) → map (cell (drop k texts)) (range_with_len a n) ≡ map (cell texts) (range_with_len (k + a) n)
columns-drop k a zero texts = refl
columns-drop k a (suc n) texts =
    let later : k + (a + 1) ≡ k + a + 1 = omega arith in
    ap (λ text. text ∷ map (cell (drop k texts)) (range_with_len (a + 1) n)) (get_or-drop k texts a [])
    ∙ ap (λ rest. cell texts (k + a) ∷ rest) (columns-drop k (a + 1) n texts ∙ ap (λ b. map (cell texts) (range_with_len b n)) later)

pub columns_more : (k : ℕ) (texts : List (List ℕ)) → map (cell texts) (range_with_len 0 (k + 1)) ≡ map (cell texts) (range_with_len 0 k) ++ cell texts k ∷ []
columns_more k texts = map-range_with_len_more (cell texts) 0 k k (omega arith)

pub fails-column : (test : List ℕ → Bool) (k n : ℕ) (texts : List (List ℕ)) → k < n → test (cell texts k) ≡ false → list_all test (map (cell texts) (range_with_len 0 n)) ≡ false
fails-column test k n texts within e =
    list_all_at test (map (cell texts) (range_with_len 0 n)) k [] (omega (arith, length-map-range_with_len (cell texts) 0 n))
    (ap test (get_or-map-range_with_len (cell texts) 0 n k k [] within (omega arith)) ∙ e)

-- the cells that are left after the column of the count begin with those of the constraints
pub constraints_left : (n : ℕ) (cells : List (List ℕ)) → map (cell (map text_of (drop 3 cells))) (range_with_len 0 n) ≡ constraint_cells n (map text_of cells)
constraints_left n cells = ap (λ texts. map (cell texts) (range_with_len 0 n)) (sym (drop-map text_of 3 cells)) ∙ columns-drop 3 0 n (map text_of cells)

extra_behind : (k : ℕ) (cells : List (List ℕ)) → list_any (λ cell. not (is_empty (text_of cell))) (drop k cells) ≡ list_any (λ text. not (is_empty text)) (drop k (map text_of cells))
extra_behind k cells =
    sym (any-map (λ text. not (is_empty text)) text_of (drop k cells))
    ∙ ap (list_any (λ text. not (is_empty text))) (sym (drop-map text_of k cells))

pub extra_after : (n : ℕ) (cells : List (List ℕ)) → list_any (λ cell. not (is_empty (text_of cell))) (drop (n + 3) cells) ≡ has_extra n (map text_of cells)
extra_after n cells = extra_behind (n + 3) cells

-- what is left of a line behind its first two cells
pub extra_second : (cells next last : List (List ℕ)) (line : List ℕ) → cells ≡ cells_of line → next ≡ drop 1 cells → last ≡ drop 1 next
    → list_any (λ cell. not (is_empty (text_of cell))) last ≡ list_any (λ text. not (is_empty text)) (drop 2 (texts_of line))
extra_second cells next last line is rest further =
    ap (list_any (λ cell. not (is_empty (text_of cell)))) (numbers_left cells next last line is rest further) ∙ extra_behind 2 (cells_of line)

pub extra_left : (n : ℕ) (cells : List (List ℕ)) → list_any (λ cell. not (is_empty (text_of cell))) (drop n (drop 3 cells)) ≡ has_extra n (map text_of cells)
extra_left n cells =
    let further : drop n (drop 3 cells) ≡ drop (n + 3) cells = drop-drop n 3 cells ∙ ap (λ k. drop k cells) (omega arith) in
    ap (list_any (λ cell. not (is_empty (text_of cell)))) further ∙ extra_after n cells

pub blank_texts : (cells : List (List ℕ)) → not (list_any (λ cell. not (is_empty (text_of cell))) cells) ≡ is_blank (map text_of cells)
blank_texts [] = refl
blank_texts (cell ∷ cells) = elim (cases_Bool (is_empty (text_of cell))) [
  | inl empty ↦ rw empty (blank_texts cells)
  | inr some ↦ rw some refl
]
