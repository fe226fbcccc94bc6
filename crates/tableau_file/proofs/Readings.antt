-- What bytes give, case by case.
use Rattle.std.proofs.Common.{◌≡◌, ℕ, ◌<◌, ◌≤◌, true, false, List, length, map, Err, refl, ap, sym}
use Rattle.std.proofs.lemmas.Bool.{lt-ltb, le-ltb}
use Rattle.tab_cells.specs.Lines.{lines_of}
use Rattle.tableau_file.specs.declared.limits.TheConstants.{FILE_LIMIT}
use Rattle.tableau_file.specs.declared.Why.TheVariants.{Utf16, TooLong}
use Rattle.tableau_file.specs.Rows.{texts_of}
use Rattle.tableau_file.specs.Reading.{is_utf16, without_mark, table_of, table_reading, reading}

pub reading-long : (bytes : List ℕ) → FILE_LIMIT < length bytes → reading bytes ≡ Err (record { line = 1; why = TooLong })
unfolding reading
reading-long bytes long = rw (lt-ltb FILE_LIMIT (length bytes) long) refl

pub reading-utf16 : (bytes : List ℕ) → length bytes ≤ FILE_LIMIT → is_utf16 bytes ≡ true → reading bytes ≡ Err (record { line = 1; why = Utf16 })
unfolding reading
reading-utf16 bytes short mark = rw (le-ltb FILE_LIMIT (length bytes) short, mark) refl

pub reading-table : (bytes : List ℕ) (lines : List (List ℕ)) → length bytes ≤ FILE_LIMIT → is_utf16 bytes ≡ false → lines ≡ lines_of (without_mark bytes) → reading bytes ≡ table_reading (map texts_of lines)
unfolding reading table_of
reading-table bytes lines short plain cut = rw (le-ltb FILE_LIMIT (length bytes) short, plain) (ap (λ lines. table_reading (map texts_of lines)) (sym cut))
