-- A line as cells, and the text of a cell.
use Rattle.std.specs.Prelude.{ℕ, ◌+◌, ◌-◌, ◌*◌, ◌%◌, ◌^◌, List, [], ◌∷◌, Bool, false, ◌&&◌, ◌||◌, ◌==◌, Option, None, Some, nat_le, length, take, drop, slice_index, if◌then◌else◌}
use Rattle.std.specs.List.{slice_split, prefix_len, suffix_len}
use denote.Ref.{Bor}

-- the pieces of a line between its tabs
abbrev pub cells_of : List ℕ → List (List ℕ)
cells_of line = slice_split (λ c. c == 9) line

-- the cells of what is left of a line, which is nothing after the last cell
abbrev pub cells_left : Option (Bor (List ℕ)) → List (List ℕ)
cells_left None = []
cells_left (Some rest) = cells_of rest.now

abbrev pub is_digit : ℕ → Bool
is_digit c = nat_le 48 c && nat_le c 57

-- a cell of one digit and nothing else, and the number of that digit
abbrev pub is_one_digit : List ℕ → Bool
is_one_digit [] = false
is_one_digit (c ∷ []) = is_digit c
is_one_digit (c ∷ d ∷ rest) = false

abbrev pub digit_of : List ℕ → ℕ
digit_of cell = slice_index cell 0 - 48

-- two bytes as one number, counted on from that of the digit 0 and a tab
abbrev pub pair_of : ℕ → ℕ → ℕ
pair_of c d = (c + 256 * d + (2 ^ 16 - 2352)) % 2 ^ 16

abbrev pub is_space : ℕ → Bool
is_space c = c == 32

-- without the spaces at its start, and at its end
abbrev pub trimmed_start : List ℕ → List ℕ
trimmed_start text = drop (prefix_len is_space text) text

abbrev pub trimmed_end : List ℕ → List ℕ
trimmed_end text = take (length text - suffix_len is_space text) text

-- without the spaces at both ends
abbrev pub trimmed : List ℕ → List ℕ
trimmed text = trimmed_end (trimmed_start text)

-- at least two bytes, of which the first and the last are quotes
abbrev pub is_quoted : List ℕ → Bool
is_quoted text = nat_le 2 (length text) && (slice_index text 0 == 34) && (slice_index text (length text - 1) == 34)

-- what stands between the first and the last byte
abbrev pub inside : List ℕ → List ℕ
inside text = take (length text - 2) (drop 1 text)

-- each pair of quotes, from left to right, as one quote
abbrev pub single_quotes : List ℕ → List ℕ
single_quotes [] = []
single_quotes (c ∷ []) = c ∷ []
single_quotes (c ∷ d ∷ rest) = if (c == 34) && (d == 34) then 34 ∷ single_quotes rest else c ∷ single_quotes (d ∷ rest)

-- what stands after the first byte, or after the pair of quotes with which the text begins
abbrev pub after_quote : List ℕ → List ℕ
after_quote [] = []
after_quote (c ∷ []) = []
after_quote (c ∷ d ∷ rest) = if (c == 34) && (d == 34) then rest else d ∷ rest

-- The text of a cell: without the spaces at both ends; where the rest is quoted, what stands inside with each pair of
-- quotes as one, again without the spaces at both ends.
unfoldable pub text_of : List ℕ → List ℕ
text_of cell = if is_quoted (trimmed cell) then trimmed (single_quotes (inside (trimmed cell))) else trimmed cell

-- two quotes stand side by side
abbrev pub has_pair : List ℕ → Bool
has_pair [] = false
has_pair (c ∷ []) = false
has_pair (c ∷ d ∷ rest) = ((c == 34) && (d == 34)) || has_pair (d ∷ rest)

-- a pair of quotes inside a quoted cell becomes one quote
unfoldable pub loses_quote : List ℕ → Bool
loses_quote cell = is_quoted (trimmed cell) && has_pair (inside (trimmed cell))
