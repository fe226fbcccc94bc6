-- Worked lines and cells.
use Rattle.std.proofs.Common.{◌≡◌, false, true, [], ◌∷◌, refl}
use Rattle.std.specs.Prelude.{codes}
use Rattle.tab_cells.specs.Lines.{lines_of}
use Rattle.tab_cells.specs.Cells.{cells_of, loses_quote, text_of}

pub line_ends : lines_of (codes "a\r\nb\rc\n\n\rd") ≡ codes "a" ∷ codes "b" ∷ codes "c" ∷ [] ∷ [] ∷ codes "d" ∷ []
unfolding lines_of
line_ends = refl

pub doubled_quotes : text_of (codes " \"a\"\"b \" ") ≡ codes "a\"b"
unfolding text_of
doubled_quotes = refl

pub lone_quotes : text_of (codes "\"") ≡ codes "\""
unfolding text_of
lone_quotes = refl

pub three_quotes : text_of (codes "\"\"\"") ≡ codes "\""
unfolding text_of
three_quotes = refl

pub quoted_space : text_of (codes "\" \"") ≡ []
unfolding text_of
quoted_space = refl

pub last_end : lines_of (codes "a\r\n") ≡ codes "a" ∷ []
unfolding lines_of
last_end = refl

pub tab_at_the_end : cells_of (codes " a \t") ≡ codes " a " ∷ [] ∷ []
tab_at_the_end = refl

pub empty_line : cells_of [] ≡ [] ∷ []
empty_line = refl

pub pair_lost : loses_quote (codes "\"a\"\"b\"") ≡ true
unfolding loses_quote
pair_lost = refl

pub no_pair_lost : loses_quote (codes "\"\"\"") ≡ false
unfolding loses_quote
no_pair_lost = refl

pub pair_outside : loses_quote (codes "a\"\"b") ≡ false
unfolding loses_quote
pair_outside = refl
