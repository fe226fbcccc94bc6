-- A text that spaces neither begin nor end is not cut.
use Rattle.std.proofs.Common.{◌≡◌, ℕ, ◌-◌, false, List, length, slice_index, arith, refl, take_all}
use Rattle.std.specs.List.{prefix_len, suffix_len}
use Rattle.std.proofs.lemmas.List.Sums.{prefix_len_is, suffix_len_is}
use Rattle.tab_cells.specs.Cells.{is_space, is_quoted, trimmed, text_of}

-- a text with no space at either end stays as it is
trimmed-same : (text : List ℕ) → is_space (slice_index text 0) ≡ false → is_space (slice_index text (length text - 1)) ≡ false → trimmed text ≡ text
trimmed-same text first last =
    let front : prefix_len is_space text ≡ 0 = prefix_len_is is_space text 0 0 (omega arith) (λ k low. absurd (omega arith)) (λ some. first) in
    let back = suffix_len_is is_space text (length text) 0 (omega arith) (λ k low high. absurd (omega arith)) (λ some. last) in
    rw front (take_all _ text (omega (arith, back)))

-- The text of a cell with no space at either end and no quotes round it is the cell.
pub text_of-same : (cell : List ℕ) → is_space (slice_index cell 0) ≡ false → is_space (slice_index cell (length cell - 1)) ≡ false → is_quoted cell ≡ false → text_of cell ≡ cell
unfolding text_of
text_of-same cell first last plain = rw (trimmed-same cell first last, plain) refl
