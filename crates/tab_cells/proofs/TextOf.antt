-- The text of a cell, by what stands between the spaces at its ends.
use Rattle.std.proofs.Common.{◌≡◌, true, false, ◌==◌, ℕ, List, length, refl, ap, sym, ◌∙◌}
use Rattle.tab_cells.specs.Cells.{trimmed, is_quoted, inside, single_quotes, has_pair, loses_quote, text_of}
use Rattle.tab_cells.proofs.PairedQuotes.{single_quotes-same, all_spaces-single_quotes}
use Rattle.tab_cells.proofs.Trimmed.{trimmed-empty}

pub text_of-unquoted : (cell : List ℕ) → is_quoted (trimmed cell) ≡ false → text_of cell ≡ trimmed cell
unfolding text_of
text_of-unquoted cell plain = rw plain refl

pub text_of-quoted : (cell : List ℕ) → is_quoted (trimmed cell) ≡ true → text_of cell ≡ trimmed (single_quotes (inside (trimmed cell)))
unfolding text_of
text_of-quoted cell quoted = rw quoted refl

pub text_of-unpaired : (cell : List ℕ) → is_quoted (trimmed cell) ≡ true → has_pair (inside (trimmed cell)) ≡ false → text_of cell ≡ trimmed (inside (trimmed cell))
text_of-unpaired cell quoted unpaired = text_of-quoted cell quoted ∙ ap trimmed (single_quotes-same (inside (trimmed cell)) unpaired)

pub loses_quote-unquoted : (cell : List ℕ) → is_quoted (trimmed cell) ≡ false → loses_quote cell ≡ false
unfolding loses_quote
loses_quote-unquoted cell plain = rw plain refl

pub loses_quote-quoted : (cell : List ℕ) → is_quoted (trimmed cell) ≡ true → loses_quote cell ≡ has_pair (inside (trimmed cell))
unfolding loses_quote
loses_quote-quoted cell quoted = rw quoted refl

pub text_of-empty : (cell : List ℕ) → is_quoted (trimmed cell) ≡ true → (length (text_of cell) == 0) ≡ (length (trimmed (inside (trimmed cell))) == 0)
text_of-empty cell quoted =
    ap (λ text. length text == 0) (text_of-quoted cell quoted)
    ∙ trimmed-empty (single_quotes (inside (trimmed cell)))
    ∙ all_spaces-single_quotes (inside (trimmed cell))
    ∙ sym (trimmed-empty (inside (trimmed cell)))

pub ruleset text_cases = (text_of-unquoted, text_of-quoted, text_of-unpaired, loses_quote-unquoted, loses_quote-quoted, text_of-empty)
