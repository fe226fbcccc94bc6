-- What a text of a cell holds.
use Rattle.std.specs.Prelude.{ℕ, List, Bool, true, false}
use Rattle.tab_cells.specs.declared.texts.CellText.{CellText}
use Rattle.tab_cells.specs.declared.texts.CellText.TheVariants.{Borrowed, Made}

-- the bytes
abbrev pub text_in : CellText → List ℕ
text_in (Borrowed text) = text.now
text_in (Made text) = text

-- it is not borrowed from the cell
abbrev pub is_made : CellText → Bool
is_made (Borrowed text) = false
is_made (Made text) = true
