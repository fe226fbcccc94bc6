-- The demonstration file of a number: 12 constraints, and 20 inputs of five candidates, whose violations are drawn.
use Rattle.std.specs.Prelude.{ℕ, zero, suc, ◌-◌, ◌*◌, ◌/◌, ◌%◌, ◌==◌, List, [], ◌∷◌, ◌++◌, map, flat_map, decimal, codes, if◌then◌else◌}
use Rattle.std.specs.List.{join_with_byte, range_with_len}
use Rattle.number_draws.specs.Draws.{next_state, drawn_below}

-- the state of the generator after so many draws
abbrev pub state_after : ℕ → ℕ → ℕ
state_after state zero = state
state_after state (suc n) = next_state (state_after state n)

-- what is drawn below 3 after so many other draws
unfoldable pub drawn_after : ℕ → ℕ → ℕ
drawn_after state n = drawn_below 3 (state_after state n)

-- a constraint, an input, and a candidate of an input, by their numbers from 1 on
abbrev pub constraint_name : ℕ → List ℕ
constraint_name c = codes "C" ++ decimal c

abbrev pub input_name : ℕ → List ℕ
input_name k = codes "i" ++ decimal k

abbrev pub candidate_name : ℕ → ℕ → List ℕ
candidate_name k j = codes "i" ++ decimal k ++ codes "c" ++ decimal j

-- The inputs belong to four groups in turn, and each group owns three constraints.
abbrev pub group_of_input : ℕ → ℕ
group_of_input k = (k - 1) % 4

abbrev pub group_of_constraint : ℕ → ℕ
group_of_constraint c = (c - 1) / 3

-- The violation of a constraint by a candidate of an input whose draws begin at a state. There is a draw for each constraint that
-- the input's group owns, in file order, and 0 for any other.
abbrev pub violation : ℕ → ℕ → ℕ → ℕ
violation state k c = if group_of_constraint c == group_of_input k then drawn_after state ((c - 1) % 3) else 0

-- what stands on the first row of an input alone
abbrev pub on_first : ℕ → List ℕ → List ℕ
on_first j text = if j == 1 then text else []

-- the cells of a candidate's row: the input, the candidate, the count, and the violations
unfoldable pub candidate_row : ℕ → ℕ → ℕ → List (List ℕ)
candidate_row state k j =
    on_first j (input_name k) ∷ candidate_name k j ∷ on_first j (codes "1") ∷ map (λ c. decimal (violation state k c)) (range_with_len 1 12)

-- the rows of an input, with three draws for each candidate
unfoldable pub input_rows : ℕ → ℕ → List (List (List ℕ))
input_rows state k = map (λ j. candidate_row (state_after state (3 * (j - 1))) k j) (range_with_len 1 5)

-- the names of the constraints behind three empty cells
abbrev pub header : List (List ℕ)
header = [] ∷ [] ∷ [] ∷ map constraint_name (range_with_len 1 12)

-- the rows of all inputs, with fifteen draws for each
unfoldable pub all_rows : ℕ → List (List (List ℕ))
all_rows number = flat_map (λ k. input_rows (state_after number (15 * (k - 1))) k) (range_with_len 1 20)

-- The names stand in both header lines, so each is its own abbreviation.
abbrev pub table : ℕ → List (List (List ℕ))
table number = header ∷ header ∷ all_rows number

-- a line of cells with a tab between each two
abbrev pub line : List (List ℕ) → List ℕ
line cells = join_with_byte 9 cells ++ 10 ∷ []

-- the bytes of the file
unfoldable pub demonstration_file : ℕ → List ℕ
demonstration_file number = flat_map line (table number)
