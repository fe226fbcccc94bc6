-- What is wrong with the lines of a table: for each line its faults, in the order in which they count.
use Rattle.std.specs.Option.{option_map_or}
use Rattle.std.specs.Prelude.{◌≡◌, Option, slice_get, ℕ, ◌+◌, ◌-◌, List, [], ◌∷◌, ◌++◌, Bool, ◌&&◌, ◌||◌, not, map, take, drop, length, slice_index_or, nat_le, nat_lt, ◌==◌, sum_by, flat_map, fold, if◌then◌else◌}
use Rattle.std.specs.List.{list_all, list_any, enumerate_from, range_with_len}
use Rattle.erc_vectors.specs.declared.condition.TheConstants.{LIMIT}
use Rattle.ot_base.specs.declared.tableau.InputRows.{InputRows}
use Rattle.ot_base.specs.declared.limits.TheConstants.{INPUT_LIMIT, CANDIDATE_LIMIT, ROW_LIMIT}
use Rattle.tableau_file.specs.declared.FileRefusal.{FileRefusal}
use Rattle.tableau_file.specs.declared.Why.{Why}
use Rattle.tableau_file.specs.declared.Why.TheVariants.{NoConstraints, EmptyName, TooManyConstraints, ExtraCell, NoInput, EmptyCandidate, BadCount, BadViolation, TooManyInputs, TooManyCandidates, NoRows}
use Rattle.tableau_file.specs.Numbers.{is_count, is_violation}
use Rattle.tableau_file.specs.Rows.{cell, is_empty, constraint_cells, continues, inputs_of, rows_from}

-- a fault where a test passes
abbrev pub fault : {X : Type 0} → Bool → X → List X
fault {X} test why = if test then why ∷ [] else []

-- the number of columns up to the last that is not empty
abbrev pub columns_used : List (List ℕ) → ℕ
columns_used cells = fold (λ used column. if is_empty column.1 then used else column.0) 0 (enumerate_from 1 cells)

-- some cell past the columns of n constraints is not empty
abbrev pub has_extra : ℕ → List (List ℕ) → Bool
has_extra n cells = list_any (λ text. not (is_empty text)) (drop (n + 3) cells)

-- line 1, of which the columns past the third are the names of n constraints
abbrev pub name_faults : ℕ → List (List ℕ) → List Why
name_faults n cells =
    fault (n == 0) NoConstraints
    ++ fault (nat_lt LIMIT n) TooManyConstraints
    ++ fault (list_any is_empty (constraint_cells n cells)) EmptyName

-- line 2: the abbreviations of n constraints
abbrev pub abbreviation_faults : ℕ → List (List ℕ) → List Why
abbreviation_faults n cells = fault (has_extra n cells) ExtraCell

-- the current input: the last one that has begun
abbrev pub current : List InputRows → Option InputRows
current inputs = slice_get inputs (length inputs - 1)

-- whether a row begins an input
abbrev pub begins_input : List InputRows → List (List ℕ) → Bool
begins_input inputs cells = option_map_or (λ input. not (continues input cells)) (current inputs) (not (is_empty (cell cells 0)))

-- how many candidates the input of a row has before it
abbrev pub candidates_before : List InputRows → List (List ℕ) → ℕ
candidates_before inputs cells = option_map_or (λ input. if continues input cells then length input.candidates else 0) (current inputs) 0

abbrev pub all_candidates : List InputRows → ℕ
all_candidates inputs = sum_by (λ input. length input.candidates) inputs

-- column 1: the input
abbrev pub input_faults : List InputRows → List (List ℕ) → List Why
input_faults inputs cells =
    fault (is_empty (cell cells 0) && (length inputs == 0)) NoInput
    ++ fault (begins_input inputs cells && nat_le INPUT_LIMIT (length inputs)) TooManyInputs

-- column 2: the candidate
abbrev pub candidate_faults : List InputRows → List (List ℕ) → List Why
candidate_faults inputs cells =
    fault (is_empty (cell cells 1)) EmptyCandidate
    ++ fault (nat_le CANDIDATE_LIMIT (candidates_before inputs cells) || nat_le ROW_LIMIT (all_candidates inputs)) TooManyCandidates

-- the columns from the third on: the count, the violations, and nothing more
abbrev pub number_faults : ℕ → List (List ℕ) → List Why
number_faults n cells =
    fault (not (is_count (cell cells 2))) BadCount
    ++ fault (not (list_all is_violation (constraint_cells n cells))) BadViolation
    ++ fault (has_extra n cells) ExtraCell

-- a candidate row, column by column, behind the inputs of the rows before it
abbrev pub row_faults : ℕ → List InputRows → List (List ℕ) → List Why
row_faults n inputs cells = input_faults inputs cells ++ candidate_faults inputs cells ++ number_faults n cells

-- the refusals of a line for its faults
abbrev pub refusals_at : ℕ → List Why → List FileRefusal
refusals_at line faults = map (λ why. record { line = line; why = why }) faults

-- the refusals of the candidate row at a place among them
abbrev pub row_refusals : ℕ → List (ℕ × List (List ℕ)) → ℕ → List FileRefusal
row_refusals n rows k =
    let row = slice_index_or rows k (0, []) in
    refusals_at row.0 (row_faults n (inputs_of n (take k rows)) row.1)

-- the refusals of all candidate rows, and of having none
unfoldable pub rows_refusals : ℕ → List (ℕ × List (List ℕ)) → List FileRefusal
rows_refusals n rows =
    refusals_at 3 (fault (length rows == 0) NoRows)
    ++ flat_map (row_refusals n rows) (range_with_len 0 (length rows))

-- all refusals of a table, in order of lines
unfoldable pub refusals : ℕ → List (List (List ℕ)) → List FileRefusal
refusals n table =
    refusals_at 1 (name_faults n (slice_index_or table 0 []))
    ++ refusals_at 2 (abbreviation_faults n (slice_index_or table 1 []))
    ++ rows_refusals n (rows_from 3 (drop 2 table))

-- the first of a list
abbrev pub IsFirst : {X : Type 0} → X → List X → Type 0
IsFirst {X} first list = (others : List X) × (list ≡ first ∷ others)
