-- What the bytes of a file of given pairs give: each line that is not blank names the upper and the lower constraint of a pair.
use Rattle.std.specs.Prelude.{ℕ, List, ◌++◌, not, map, flat_map, drop, length, position, bytes_eq, is_none, nat_le, nat_lt, nat_eq, Option, Some, if◌then◌else◌, Result, Err}
use Rattle.std.specs.List.{list_any, enumerate_from}
use Rattle.std.specs.Option.{option_map_or}
use Rattle.ot_base.specs.declared.limits.TheConstants.{GIVEN_LIMIT}
use Rattle.ot_base.specs.declared.tableau.Pair.{Pair}
use Rattle.ot_base.specs.declared.tableau.Tableau.{Tableau}
use Rattle.tableau_file.specs.declared.given.GivenRefusal.{GivenRefusal}
use Rattle.tableau_file.specs.declared.given.GivenWhy.{GivenWhy}
use Rattle.tableau_file.specs.declared.given.GivenWhy.TheVariants.{TooLong, Utf16, MissingName, UnknownName, SameConstraint, ExtraCell, TooManyPairs}
use Rattle.tableau_file.specs.declared.limits.TheConstants.{FILE_LIMIT}
use Rattle.tableau_file.specs.Faults.{fault}
use Rattle.tableau_file.specs.Reading.{first_or, is_utf16, table_of}
use Rattle.tableau_file.specs.Rows.{cell, is_empty, rows_from}

-- the first constraint with this text as its name, or else the first with it as its abbreviation
abbrev pub constraint_named : Tableau → List ℕ → Option ℕ
constraint_named tableau text = option_map_or (λ c. Some c) (position (bytes_eq text) tableau.names) (position (bytes_eq text) tableau.abbrevs)

-- the number of the constraint that a text names
abbrev pub number_of : Tableau → List ℕ → ℕ
number_of tableau text = option_map_or (λ c. c) (constraint_named tableau text) 0

-- a column: the name or the abbreviation of a constraint
abbrev pub name_faults : Tableau → List ℕ → List GivenWhy
name_faults tableau text = fault (is_empty text) MissingName ++ fault (is_none (constraint_named tableau text)) UnknownName

-- the line of a pair behind so many others: first its upper constraint, then its lower one
abbrev pub pair_faults : Tableau → ℕ → List (List ℕ) → List GivenWhy
pair_faults tableau before cells =
    name_faults tableau (cell cells 0)
    ++ name_faults tableau (cell cells 1)
    ++ fault (nat_eq (number_of tableau (cell cells 0)) (number_of tableau (cell cells 1))) SameConstraint
    ++ fault (list_any (λ text. not (is_empty text)) (drop 2 cells)) ExtraCell
    ++ fault (nat_le GIVEN_LIMIT before) TooManyPairs

-- the pair of a line
abbrev pub pair_in : Tableau → List (List ℕ) → Pair
pair_in tableau cells = record { above = record { 0 = number_of tableau (cell cells 0) }; below = record { 0 = number_of tableau (cell cells 1) } }

-- the refusals of a line, beside the number of pairs before it
abbrev pub line_refusals : Tableau → ℕ × (ℕ × List (List ℕ)) → List GivenRefusal
line_refusals tableau place = map (λ why. record { line = place.1.0; why = why }) (pair_faults tableau place.0 place.1.1)

-- all refusals of the lines of pairs, in order of lines
abbrev pub given_refusals : Tableau → List (ℕ × List (List ℕ)) → List GivenRefusal
given_refusals tableau rows = flat_map (line_refusals tableau) (enumerate_from 0 rows)

-- what a table gives: a pair for each line that is not blank
unfoldable pub pairs_reading : Tableau → List (List (List ℕ)) → Result (List Pair) GivenRefusal
pairs_reading tableau table = first_or (given_refusals tableau (rows_from 1 table)) (map (λ row. pair_in tableau row.1) (rows_from 1 table))

-- A file that is too long is refused before anything else, then one in UTF-16, and then by its lines.
unfoldable pub given_reading : Tableau → List ℕ → Result (List Pair) GivenRefusal
given_reading tableau bytes =
    if nat_lt FILE_LIMIT (length bytes)
    then Err (record { line = 1; why = TooLong })
    else if is_utf16 bytes
    then Err (record { line = 1; why = Utf16 })
    else pairs_reading tableau (table_of bytes)
