-- The bytes of a file as lines.
use Rattle.std.specs.Prelude.{ℕ, List, [], ◌∷◌, ◌&&◌, ◌==◌, if◌then◌else◌}
use Rattle.std.specs.List.{onto_first}

-- each CR LF, and each CR that no LF follows, as one LF
abbrev pub with_line_feeds : List ℕ → List ℕ
with_line_feeds [] = []
with_line_feeds (c ∷ []) = (if c == 13 then 10 else c) ∷ []
with_line_feeds (c ∷ d ∷ rest) =
    if c == 13
    then (if d == 10 then 10 ∷ with_line_feeds rest else 10 ∷ with_line_feeds (d ∷ rest))
    else c ∷ with_line_feeds (d ∷ rest)

-- what stands before each LF, and what follows the last one if it is not empty
abbrev pub fed_lines : List ℕ → List (List ℕ)
fed_lines [] = []
fed_lines (c ∷ rest) = if c == 10 then [] ∷ fed_lines rest else onto_first c (fed_lines rest)

-- The lines: each ends at LF, at CR LF, or at a CR that no LF follows, and what follows the last end is a line if it is
-- not empty.
unfoldable pub lines_of : List ℕ → List (List ℕ)
lines_of bytes = fed_lines (with_line_feeds bytes)

-- what stands after the line end with which the bytes begin
abbrev pub after_end : List ℕ → List ℕ
after_end [] = []
after_end (c ∷ []) = []
after_end (c ∷ d ∷ rest) = if (c == 13) && (d == 10) then rest else d ∷ rest
