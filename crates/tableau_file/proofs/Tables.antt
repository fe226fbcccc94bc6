-- What the lines of a file give: their refusals and their tableau, part by part.
use Rattle.std.proofs.Common.{◌≡◌, ℕ, zero, suc, ◌+◌, ◌-◌, ◌≤◌, ◌==◌, nat_lt, Bool, true, false, List, [], ◌∷◌, ◌++◌, length, map, drop, slice_index_or, Ok, Err, refl, ap, sym, subst, ◌∙◌, arith}
use Rattle.std.specs.List.{list_any, range_with_len, zip}
use Rattle.std.proofs.Math.Seq.{drop-nil}
use Rattle.std.proofs.lemmas.Bool.{eqb-false, ltb-false}
use Rattle.std.proofs.lemmas.List.{length-map, drop-map, get_or_past}
use Rattle.std.proofs.lemmas.List.FromFn.{length-range_with_len}
use Rattle.ot_base.specs.declared.tableau.Tableau.{Tableau}
use Rattle.ot_base.specs.declared.tableau.InputRows.{InputRows}
use Rattle.tab_cells.specs.Cells.{text_of}
use Rattle.erc_vectors.specs.declared.condition.TheConstants.{LIMIT}
use Rattle.tableau_file.specs.declared.FileRefusal.{FileRefusal}
use Rattle.tableau_file.specs.declared.Why.{Why}
use Rattle.tableau_file.specs.declared.Why.TheVariants.{NoConstraints, EmptyName, TooManyConstraints, ExtraCell}
use Rattle.tableau_file.specs.Rows.{texts_of, cell, is_empty, constraint_cells, or_name, abbreviations_of, rows_from, inputs_of, tableau_of}
use Rattle.tableau_file.specs.Faults.{fault, columns_used, has_extra, name_faults, abbreviation_faults, refusals_at, rows_refusals, refusals, IsFirst}
use Rattle.tableau_file.specs.Reading.{first_or, constraint_count, table_reading}

pub length-constraint_cells : (n : ℕ) (cells : List (List ℕ)) → length (constraint_cells n cells) ≡ n
length-constraint_cells n cells = length-map (range_with_len 3 n) (cell cells) ∙ length-range_with_len 3 n

none_left : {X : Type 0} (xs ys : List X) → xs ++ ys ≡ [] → xs ≡ []
none_left [] ys none = refl
none_left (x ∷ xs) ys none = absurd (cc none)

none_right : {X : Type 0} (xs ys : List X) → xs ++ ys ≡ [] → ys ≡ []
none_right [] ys none = none
none_right (x ∷ xs) ys none = absurd (cc none)

-- two lists that are empty together are so each
pub none_both : {X : Type 0} (xs ys : List X) → xs ++ ys ≡ [] → (xs ≡ []) × (ys ≡ [])
none_both xs ys none = (none_left xs ys none, none_right xs ys none)

-- without a fault the test fails
pub no-fault : (test : Bool) (why : Why) → fault test why ≡ [] → test ≡ false
no-fault true why none = absurd (cc none)
no-fault false why none = refl

pub record HasNames (n : ℕ) : Type 0 where
  pub some : 1 ≤ n
  pub few : n ≤ LIMIT

pub named-sound : (n : ℕ) (cells : List (List ℕ)) → name_faults n cells ≡ [] → HasNames n
named-sound n cells none =
    let front = (none_both (fault (n == 0) NoConstraints ++ fault (nat_lt LIMIT n) TooManyConstraints) (fault (list_any is_empty (constraint_cells n cells)) EmptyName) none).0 in
    let parts = none_both (fault (n == 0) NoConstraints) (fault (nat_lt LIMIT n) TooManyConstraints) front in
    let some = eqb-false n 0 (no-fault (n == 0) NoConstraints parts.0) in
    record { some = omega (arith, some); few = ltb-false LIMIT n (no-fault (nat_lt LIMIT n) TooManyConstraints parts.1) }

-- an empty line has one empty text, and a line that is not there has none
line_map : {X : Type 0} (f : List (List ℕ) → X) → f ([] ∷ []) ≡ f [] → (lines : List (List ℕ)) (place : ℕ) → f (texts_of (slice_index_or lines place [])) ≡ f (slice_index_or (map texts_of lines) place [])
unfolding text_of
line_map f same [] place = same
line_map f same (line ∷ lines) zero = refl
line_map f same (line ∷ lines) (suc place) = line_map f same lines place

empty_columns : (n a : ℕ) → 1 ≤ a → map (cell ([] ∷ [])) (range_with_len a n) ≡ map (cell []) (range_with_len a n)
empty_columns zero a h = refl
empty_columns (suc n) a h =
    let past : cell ([] ∷ []) a ≡ [] = get_or_past ([] ∷ []) a [] h in
    rw past (ap (λ texts. [] ∷ texts) (empty_columns n (a + 1) (omega arith)))

empty_constraints : (n : ℕ) → constraint_cells n ([] ∷ []) ≡ constraint_cells n []
empty_constraints n = empty_columns n 3 (omega arith)

empty_extra : (n : ℕ) → has_extra n ([] ∷ []) ≡ has_extra n []
empty_extra n = let shifted : n + 3 ≡ suc (n + 2) = omega arith in rw (shifted, drop-nil (n + 2)) refl

-- the texts of the line at a place
abbrev pub at : List (List ℕ) → ℕ → List (List ℕ)
at lines place = texts_of (slice_index_or lines place [])

-- the number of names
abbrev pub count : List (List ℕ) → ℕ
count lines = columns_used (at lines 0) - 3

-- the rows of the lines from the third on
abbrev pub rows_of : List (List ℕ) → List (ℕ × List (List ℕ))
rows_of lines = rows_from 3 (map texts_of (drop 2 lines))

count-map : (lines : List (List ℕ)) → constraint_count (map texts_of lines) ≡ count lines
count-map lines = sym (line_map (λ cells. columns_used cells - 3) refl lines 0)

rows-map : (lines : List (List ℕ)) → rows_from 3 (drop 2 (map texts_of lines)) ≡ rows_of lines
rows-map lines = ap (rows_from 3) (drop-map texts_of 2 lines)

names-map : (n : ℕ) (lines : List (List ℕ)) → constraint_cells n (slice_index_or (map texts_of lines) 0 []) ≡ constraint_cells n (at lines 0)
names-map n lines = sym (line_map (constraint_cells n) (empty_constraints n) lines 0)

name_faults-map : (n : ℕ) (lines : List (List ℕ)) → name_faults n (slice_index_or (map texts_of lines) 0 []) ≡ name_faults n (at lines 0)
name_faults-map n lines = ap (λ names. fault (n == 0) NoConstraints ++ fault (nat_lt LIMIT n) TooManyConstraints ++ fault (list_any is_empty names) EmptyName) (names-map n lines)

abbreviation_faults-map : (n : ℕ) (lines : List (List ℕ)) → abbreviation_faults n (slice_index_or (map texts_of lines) 1 []) ≡ abbreviation_faults n (at lines 1)
abbreviation_faults-map n lines = ap (λ extra. fault extra ExtraCell) (sym (line_map (has_extra n) (empty_extra n) lines 1))

abbreviations-map : (names : List (List ℕ)) (lines : List (List ℕ)) → abbreviations_of names (slice_index_or (map texts_of lines) 1 []) ≡ abbreviations_of names (at lines 1)
abbreviations-map names lines = ap (λ cells. map (λ pair. or_name pair.0 pair.1) (zip cells names)) (sym (line_map (constraint_cells (length names)) (empty_constraints (length names)) lines 1))

abbrev three : List Why → List Why → List FileRefusal → List FileRefusal
three names abbreviations rows = refusals_at 1 names ++ refusals_at 2 abbreviations ++ rows

refusals-lines : (lines : List (List ℕ))
    → refusals (constraint_count (map texts_of lines)) (map texts_of lines) ≡ three (name_faults (count lines) (at lines 0)) (abbreviation_faults (count lines) (at lines 1)) (rows_refusals (count lines) (rows_of lines))
unfolding refusals
refusals-lines lines =
    let n = count lines in
    let table = map texts_of lines in
    let names = slice_index_or table 0 [] in
    let abbreviations = slice_index_or table 1 [] in
    let rows = rows_from 3 (drop 2 table) in
    ap (λ n. three (name_faults n names) (abbreviation_faults n abbreviations) (rows_refusals n rows)) (count-map lines)
    ∙ ap (λ faults. three faults (abbreviation_faults n abbreviations) (rows_refusals n rows)) (name_faults-map n lines)
    ∙ ap (λ faults. three (name_faults n (at lines 0)) faults (rows_refusals n rows)) (abbreviation_faults-map n lines)
    ∙ ap (λ rows. three (name_faults n (at lines 0)) (abbreviation_faults n (at lines 1)) (rows_refusals n rows)) (rows-map lines)

abbrev spelt : List (List ℕ) → List (List ℕ) → List InputRows → Tableau
spelt names abbreviations inputs = record { names = names; abbrevs = abbreviations; inputs = inputs }

tableau-lines : (lines : List (List ℕ))
    → tableau_of (constraint_count (map texts_of lines)) (map texts_of lines) ≡ spelt (constraint_cells (count lines) (at lines 0)) (abbreviations_of (constraint_cells (count lines) (at lines 0)) (at lines 1)) (inputs_of (count lines) (rows_of lines))
unfolding tableau_of
tableau-lines lines =
    let n = count lines in
    let table = map texts_of lines in
    let abbreviations = slice_index_or table 1 [] in
    let rows = rows_from 3 (drop 2 table) in
    let named = constraint_cells n (at lines 0) in
    ap (λ n. let names = constraint_cells n (slice_index_or table 0 []) in spelt names (abbreviations_of names abbreviations) (inputs_of n rows)) (count-map lines)
    ∙ ap (λ names. spelt names (abbreviations_of names abbreviations) (inputs_of n rows)) (names-map n lines)
    ∙ ap (λ abbreviations. spelt named abbreviations (inputs_of n rows)) (abbreviations-map named lines)
    ∙ ap (λ rows. spelt named (abbreviations_of named (at lines 1)) (inputs_of n rows)) (rows-map lines)

reading-lines : (lines : List (List ℕ)) → table_reading (map texts_of lines) ≡ first_or (refusals (constraint_count (map texts_of lines)) (map texts_of lines)) (tableau_of (constraint_count (map texts_of lines)) (map texts_of lines))
unfolding table_reading
reading-lines lines = refl

-- the first refusal of a file's lines
refused : (lines : List (List ℕ)) (refusal : FileRefusal) → IsFirst refusal (three (name_faults (count lines) (at lines 0)) (abbreviation_faults (count lines) (at lines 1)) (rows_refusals (count lines) (rows_of lines)))
    → table_reading (map texts_of lines) ≡ Err refusal
refused lines refusal first =
    let table = map texts_of lines in
    reading-lines lines ∙ ap (λ refusals. first_or refusals (tableau_of (constraint_count table) table)) (refusals-lines lines ∙ first.1)

first_at : (number : ℕ) (faults : List Why) (refusal : FileRefusal) → refusal.line ≡ number → IsFirst refusal.why faults → IsFirst refusal (refusals_at number faults)
first_at number faults refusal at first = (refusals_at number first.0, ap (refusals_at number) first.1 ∙ ap (λ line. record { line = line; why = refusal.why } ∷ refusals_at number first.0) (sym at))

-- the first line, read
pub record IsNamed (lines : List (List ℕ)) (first : List ℕ) (names : List (List ℕ)) : Type 0 where
  pub first_is : first ≡ slice_index_or lines 0 []
  pub sound : name_faults (columns_used (texts_of first) - 3) (texts_of first) ≡ []
  pub names_are : names ≡ constraint_cells (columns_used (texts_of first) - 3) (texts_of first)

pub names-refused : (lines : List (List ℕ)) (first : List ℕ) (refusal : FileRefusal) → first ≡ slice_index_or lines 0 []
    → refusal.line ≡ 1 → IsFirst refusal.why (name_faults (columns_used (texts_of first) - 3) (texts_of first)) → table_reading (map texts_of lines) ≡ Err refusal
names-refused lines first refusal is number fault =
    let here = subst (λ line. IsFirst refusal.why (name_faults (columns_used (texts_of line) - 3) (texts_of line))) is fault in
    let told = first_at 1 (name_faults (count lines) (at lines 0)) refusal number here in
    refused lines refusal (_, ap (λ names. names ++ refusals_at 2 (abbreviation_faults (count lines) (at lines 1)) ++ rows_refusals (count lines) (rows_of lines)) told.1)

sound : (lines : List (List ℕ)) (first : List ℕ) (names : List (List ℕ)) → IsNamed lines first names → name_faults (count lines) (at lines 0) ≡ []
sound lines first names named = subst (λ line. name_faults (columns_used (texts_of line) - 3) (texts_of line) ≡ []) named.first_is named.sound

pub names-are : (lines : List (List ℕ)) (first : List ℕ) (names : List (List ℕ)) → IsNamed lines first names → names ≡ constraint_cells (count lines) (at lines 0)
names-are lines first names named = subst (λ line. names ≡ constraint_cells (columns_used (texts_of line) - 3) (texts_of line)) named.first_is named.names_are

pub length-names : (lines : List (List ℕ)) (first : List ℕ) (names : List (List ℕ)) → IsNamed lines first names → length names ≡ count lines
length-names lines first names named = ap length (names-are lines first names named) ∙ length-constraint_cells (count lines) (at lines 0)

pub few-names : (lines : List (List ℕ)) (first : List ℕ) (names : List (List ℕ)) → IsNamed lines first names → length names ≤ LIMIT
few-names lines first names named = omega (arith, length-names lines first names named, (named-sound (count lines) (at lines 0) (sound lines first names named)).few)

pub abbreviations-refused : (lines : List (List ℕ)) (first : List ℕ) (names : List (List ℕ)) (second : List ℕ) (refusal : FileRefusal) → IsNamed lines first names → second ≡ slice_index_or lines 1 []
    → refusal.line ≡ 2 → IsFirst refusal.why (abbreviation_faults (length names) (texts_of second)) → table_reading (map texts_of lines) ≡ Err refusal
abbreviations-refused lines first names second refusal named is number fault =
    let sized = subst (λ n. IsFirst refusal.why (abbreviation_faults n (texts_of second))) (length-names lines first names named) fault in
    let here = subst (λ line. IsFirst refusal.why (abbreviation_faults (count lines) (texts_of line))) is sized in
    let told = first_at 2 (abbreviation_faults (count lines) (at lines 1)) refusal number here in
    refused lines refusal (
      _,
      ap (λ names. three names (abbreviation_faults (count lines) (at lines 1)) (rows_refusals (count lines) (rows_of lines))) (sound lines first names named)
          ∙ ap (λ abbreviations. abbreviations ++ rows_refusals (count lines) (rows_of lines)) told.1,
    )

-- the second line, read
pub record IsAbbreviated (lines : List (List ℕ)) (names : List (List ℕ)) (second : List ℕ) (abbreviations : List (List ℕ)) : Type 0 where
  pub second_is : second ≡ slice_index_or lines 1 []
  pub sound : abbreviation_faults (length names) (texts_of second) ≡ []
  pub abbreviations_are : abbreviations ≡ abbreviations_of names (texts_of second)

headed : (lines : List (List ℕ)) (first : List ℕ) (names : List (List ℕ)) (second : List ℕ) (abbreviations : List (List ℕ)) → IsNamed lines first names → IsAbbreviated lines names second abbreviations
    → three (name_faults (count lines) (at lines 0)) (abbreviation_faults (count lines) (at lines 1)) (rows_refusals (count lines) (rows_of lines)) ≡ rows_refusals (count lines) (rows_of lines)
headed lines first names second abbreviations named abbreviated =
    let sized = subst (λ n. abbreviation_faults n (texts_of second) ≡ []) (length-names lines first names named) abbreviated.sound in
    let none = subst (λ line. abbreviation_faults (count lines) (texts_of line) ≡ []) abbreviated.second_is sized in
    ap (λ names. three names (abbreviation_faults (count lines) (at lines 1)) (rows_refusals (count lines) (rows_of lines))) (sound lines first names named)
    ∙ ap (λ abbreviations. three [] abbreviations (rows_refusals (count lines) (rows_of lines))) none

pub rows-refused : (lines : List (List ℕ)) (first : List ℕ) (names : List (List ℕ)) (second : List ℕ) (abbreviations : List (List ℕ)) (refusal : FileRefusal)
    → IsNamed lines first names → IsAbbreviated lines names second abbreviations → IsFirst refusal (rows_refusals (length names) (rows_of lines)) → table_reading (map texts_of lines) ≡ Err refusal
rows-refused lines first names second abbreviations refusal named abbreviated fault =
    let here = subst (λ n. IsFirst refusal (rows_refusals n (rows_of lines))) (length-names lines first names named) fault in
    refused lines refusal (here.0, headed lines first names second abbreviations named abbreviated ∙ here.1)

pub table-read : (lines : List (List ℕ)) (first : List ℕ) (names : List (List ℕ)) (second : List ℕ) (abbreviations : List (List ℕ)) (inputs : List InputRows)
    → IsNamed lines first names → IsAbbreviated lines names second abbreviations → rows_refusals (length names) (rows_of lines) ≡ [] → inputs ≡ inputs_of (length names) (rows_of lines)
    → table_reading (map texts_of lines) ≡ Ok (record { names = names; abbrevs = abbreviations; inputs = inputs })
table-read lines first names second abbreviations inputs named abbreviated none made =
    let table = map texts_of lines in
    let n = length-names lines first names named in
    let named_so = names-are lines first names named in
    let abbreviated_so = abbreviated.abbreviations_are ∙ ap (λ line. abbreviations_of names (texts_of line)) abbreviated.second_is ∙ ap (λ names. abbreviations_of names (at lines 1)) named_so in
    let made_so = made ∙ ap (λ n. inputs_of n (rows_of lines)) n in
    reading-lines lines
    ∙ ap (λ refusals. first_or refusals (tableau_of (constraint_count table) table))
    (refusals-lines lines ∙ headed lines first names second abbreviations named abbreviated ∙ ap (λ n. rows_refusals n (rows_of lines)) (sym n) ∙ none)
    ∙ ap Ok (tableau-lines lines
    ∙ ap (λ names. spelt names (abbreviations_of (constraint_cells (count lines) (at lines 0)) (at lines 1)) (inputs_of (count lines) (rows_of lines))) (sym named_so)
    ∙ ap (λ abbreviations. spelt names abbreviations (inputs_of (count lines) (rows_of lines))) (sym abbreviated_so)
    ∙ ap (spelt names abbreviations) (sym made_so))
