-- What the bytes of a file give.
use Rattle.std.specs.Prelude.{ℕ, ◌-◌, slice_index_or, List, [], ◌∷◌, Bool, ◌||◌, map, take, drop, length, nat_lt, bytes_eq, if◌then◌else◌, Result, Ok, Err}
use Rattle.ot_base.specs.declared.tableau.Tableau.{Tableau}
use Rattle.tab_cells.specs.Lines.{lines_of}
use Rattle.tableau_file.specs.declared.limits.TheConstants.{FILE_LIMIT}
use Rattle.tableau_file.specs.declared.FileRefusal.{FileRefusal}
use Rattle.tableau_file.specs.declared.Why.TheVariants.{Utf16, TooLong}
use Rattle.tableau_file.specs.Rows.{texts_of, tableau_of}
use Rattle.tableau_file.specs.Faults.{columns_used, refusals}

abbrev pub begins_with : List ℕ → List ℕ → Bool
begins_with bytes start = bytes_eq (take (length start) bytes) start

-- the byte order marks of UTF-16
abbrev pub is_utf16 : List ℕ → Bool
is_utf16 bytes = begins_with bytes (255 ∷ 254 ∷ []) || begins_with bytes (254 ∷ 255 ∷ [])

-- without the byte order mark of UTF-8
abbrev pub without_mark : List ℕ → List ℕ
without_mark bytes = if begins_with bytes (239 ∷ 187 ∷ 191 ∷ []) then drop 3 bytes else bytes

-- the texts of the cells of each line
unfoldable pub table_of : List ℕ → List (List (List ℕ))
table_of bytes = map texts_of (lines_of (without_mark bytes))

-- the first refusal, or else what was read
abbrev pub first_or : {X E : Type 0} → List E → X → Result X E
first_or {X} {E} [] read = Ok read
first_or {X} {E} (refusal ∷ others) read = Err refusal

-- the number of constraints: the columns used in the first line, less 3
abbrev pub constraint_count : List (List (List ℕ)) → ℕ
constraint_count table = columns_used (slice_index_or table 0 []) - 3

-- what a table gives
unfoldable pub table_reading : List (List (List ℕ)) → Result Tableau FileRefusal
table_reading table = first_or (refusals (constraint_count table) table) (tableau_of (constraint_count table) table)

-- A file that is too long is refused before anything else, then one in UTF-16, and then by its lines.
unfoldable pub reading : List ℕ → Result Tableau FileRefusal
reading bytes =
    if nat_lt FILE_LIMIT (length bytes)
    then Err (record { line = 1; why = TooLong })
    else if is_utf16 bytes
    then Err (record { line = 1; why = Utf16 })
    else table_reading (table_of bytes)
