-- Cells whose bytes end no cell and no line, and are neither cut off nor unquoted, are read as they stand.
use Rattle.std.proofs.Common.{◌≡◌, ℕ, zero, suc, ◌-◌, ◌<◌, ◌==◌, ◌⊎◌, nat_lt, Bool, true, false, not, ◌&&◌, ◌||◌, List, [], ◌∷◌, ◌++◌, length, map, flat_map, slice_index, append_assoc, arith, inl, inr, refl, ap, ◌∙◌}
use Rattle.std.specs.Prelude.{nat_le}
use Rattle.std.specs.List.{All, list_all, join_with_byte}
use Rattle.std.proofs.lemmas.Bool.{and_parts, and_right, ltb-true}
use Rattle.std.proofs.lemmas.Bool.Decides.{nat_tests}
use Rattle.std.proofs.lemmas.List.Elements.{All-head, All-tail, All-weaker}
use Rattle.std.proofs.lemmas.List.Folds.{list_all-append}
use Rattle.std.proofs.lemmas.List.Splits.{slice_split_none, slice_split_at}
use Rattle.std.proofs.lemmas.List.Sums.{AllPass-from_list_all}
use Rattle.tab_cells.specs.Cells.{cells_of, is_quoted, text_of}
use Rattle.tab_cells.specs.Lines.{with_line_feeds, fed_lines, lines_of}
use Rattle.demonstration_file.proofs.Trimmed.{text_of-same}
use Rattle.tableau_file.specs.Rows.{texts_of}
use Rattle.demonstration_file.specs.Demonstration.{line}

-- above the tab, the line ends, the space and the quote
abbrev pub is_plain : ℕ → Bool
is_plain c = nat_lt 34 c

abbrev pub are_plain : List ℕ → Bool
are_plain text = list_all is_plain text

-- ---- one cell
plain_at : (text : List ℕ) (k : ℕ) → are_plain text ≡ true → (34 < slice_index text k) ⊎ (slice_index text k ≡ 0)
plain_at [] k plain = inr refl
plain_at (c ∷ text) zero plain = inl (ltb-true 34 c (and_parts (is_plain c) (are_plain text) plain).0)
plain_at (c ∷ text) (suc k) plain = plain_at text k (and_parts (is_plain c) (are_plain text) plain).1

no_space : (b : ℕ) → (34 < b) ⊎ (b ≡ 0) → (b == 32) ≡ false
no_space b (inl above) = grind (arith, nat_tests)
no_space b (inr none) = grind (arith, nat_tests)

no_quote : (b : ℕ) → (34 < b) ⊎ (b ≡ 0) → (b == 34) ≡ false
no_quote b (inl above) = grind (arith, nat_tests)
no_quote b (inr none) = grind (arith, nat_tests)

text_of-plain : (cell : List ℕ) → are_plain cell ≡ true → text_of cell ≡ cell
text_of-plain cell plain =
    let last = length cell - 1 in
    let quoted : is_quoted cell ≡ false = and_right (nat_le 2 (length cell) && (slice_index cell 0 == 34)) (slice_index cell last == 34) (no_quote (slice_index cell last) (plain_at cell last plain)) in
    text_of-same cell (no_space (slice_index cell 0) (plain_at cell 0 plain)) (no_space (slice_index cell last) (plain_at cell last plain)) quoted

texts-plain : (cells : List (List ℕ)) → list_all are_plain cells ≡ true → map text_of cells ≡ cells
texts-plain [] plain = refl
texts-plain (x ∷ cells) plain =
    let parts = and_parts (are_plain x) (list_all are_plain cells) plain in
    rw (text_of-plain x parts.0, texts-plain cells parts.1) refl

-- ---- the cells of a line
lacks_tab : (text : List ℕ) → are_plain text ≡ true → All (λ c. (c == 9) ≡ false) text
lacks_tab text plain =
    All-weaker (λ c. is_plain c ≡ true) (λ c. (c == 9) ≡ false) (λ c p. no_tab c (ltb-true 34 c p)) text (AllPass-from_list_all is_plain text plain)
  where
    no_tab : (c : ℕ) → 34 < c → (c == 9) ≡ false
    no_tab c above = grind (arith, nat_tests)

cells_of-joined : (x : List ℕ) (cells : List (List ℕ)) → list_all are_plain (x ∷ cells) ≡ true → cells_of (join_with_byte 9 (x ∷ cells)) ≡ x ∷ cells
cells_of-joined x [] plain = slice_split_none (λ c. c == 9) x (lacks_tab x (and_parts (are_plain x) true plain).0)
cells_of-joined x (y ∷ cells) plain =
    let parts = and_parts (are_plain x) (list_all are_plain (y ∷ cells)) plain in
    slice_split_at (λ c. c == 9) x 9 (join_with_byte 9 (y ∷ cells)) (lacks_tab x parts.0) refl ∙ ap (λ (rest : List (List ℕ)). x ∷ rest) (cells_of-joined y cells parts.1)

-- a row of one cell or more
abbrev pub is_plain_row : List (List ℕ) → Bool
is_plain_row [] = false
is_plain_row (x ∷ cells) = list_all are_plain (x ∷ cells)

texts_of-joined : (row : List (List ℕ)) → is_plain_row row ≡ true → texts_of (join_with_byte 9 row) ≡ row
texts_of-joined [] plain = absurd (cc plain)
texts_of-joined (x ∷ cells) plain = ap (map text_of) (cells_of-joined x cells plain) ∙ texts-plain (x ∷ cells) plain

-- ---- the lines of a file
-- a byte that stands inside a line
abbrev is_inside : ℕ → Bool
is_inside c = is_plain c || (c == 9)

inside-plain : (text : List ℕ) → are_plain text ≡ true → list_all is_inside text ≡ true
inside-plain [] plain = refl
inside-plain (c ∷ text) plain =
    let parts = and_parts (is_plain c) (are_plain text) plain in
    rw (parts.0, inside-plain text parts.1) refl

inside-joined : (cells : List (List ℕ)) → list_all are_plain cells ≡ true → list_all is_inside (join_with_byte 9 cells) ≡ true
inside-joined [] plain = refl
inside-joined (x ∷ []) plain = inside-plain x (and_parts (are_plain x) true plain).0
inside-joined (x ∷ y ∷ cells) plain =
    let parts = and_parts (are_plain x) (list_all are_plain (y ∷ cells)) plain in
    rw (list_all-append is_inside x (9 ∷ join_with_byte 9 (y ∷ cells)), inside-plain x parts.0, inside-joined (y ∷ cells) parts.1) refl

inside-row : (row : List (List ℕ)) → is_plain_row row ≡ true → list_all is_inside (join_with_byte 9 row) ≡ true
inside-row [] plain = refl
inside-row (x ∷ cells) plain = inside-joined (x ∷ cells) plain

ends_nothing : (c : ℕ) → is_inside c ≡ true → (c == 10) ≡ false
ends_nothing c inside = grind (arith, nat_tests)

returns_nothing : (c : ℕ) → is_inside c ≡ true → (c == 13) ≡ false
returns_nothing c inside = grind (arith, nat_tests)

fed_lines-line : (text rest : List ℕ) → list_all is_inside text ≡ true → fed_lines (text ++ 10 ∷ rest) ≡ text ∷ fed_lines rest
fed_lines-line [] rest inside = refl
fed_lines-line (c ∷ text) rest inside =
    let parts = and_parts (is_inside c) (list_all is_inside text) inside in
    rw (ends_nothing c parts.0, fed_lines-line text rest parts.1) refl

-- without a CR nothing changes
abbrev has_no_return : List ℕ → Bool
has_no_return bytes = list_all (λ c. not (c == 13)) bytes

feeds-same : (bytes : List ℕ) → has_no_return bytes ≡ true → with_line_feeds bytes ≡ bytes
feeds-same [] none = refl
feeds-same (c ∷ []) none =
    let other : (c == 13) ≡ false = grind (arith, nat_tests) in
    rw other refl
feeds-same (c ∷ d ∷ rest) none =
    let parts = and_parts (not (c == 13)) (has_no_return (d ∷ rest)) none in
    let other : (c == 13) ≡ false = grind (arith, nat_tests, parts.0) in
    rw (other, feeds-same (d ∷ rest) parts.1) refl

inside-no_return : (text : List ℕ) → list_all is_inside text ≡ true → has_no_return text ≡ true
inside-no_return [] inside = refl
inside-no_return (c ∷ text) inside =
    let parts = and_parts (is_inside c) (list_all is_inside text) inside in
    rw (returns_nothing c parts.0, inside-no_return text parts.1) refl

rows-no_return : (rows : List (List (List ℕ))) → All (λ row. is_plain_row row ≡ true) rows → has_no_return (flat_map line rows) ≡ true
rows-no_return [] plain = refl
rows-no_return (row ∷ rows) plain =
    let here = All-head (λ row. is_plain_row row ≡ true) row rows plain in
    let rest = All-tail (λ row. is_plain_row row ≡ true) row rows plain in
    let front = inside-no_return (join_with_byte 9 row) (inside-row row here) in
    rw (list_all-append (λ c. not (c == 13)) (line row) (flat_map line rows), list_all-append (λ c. not (c == 13)) (join_with_byte 9 row) (10 ∷ []), front, rows-no_return rows rest) refl

rows-fed : (rows : List (List (List ℕ))) → All (λ row. is_plain_row row ≡ true) rows → map texts_of (fed_lines (flat_map line rows)) ≡ rows
rows-fed [] plain = refl
rows-fed (row ∷ rows) plain =
    let here = All-head (λ row. is_plain_row row ≡ true) row rows plain in
    let rest = All-tail (λ row. is_plain_row row ≡ true) row rows plain in
    rw (append_assoc (join_with_byte 9 row) (10 ∷ []) (flat_map line rows), fed_lines-line (join_with_byte 9 row) (flat_map line rows) (inside-row row here), texts_of-joined row here, rows-fed rows rest) refl

-- Plain rows, each a line of cells with a tab between each two, are read as those cells.
pub rows-read : (rows : List (List (List ℕ))) → All (λ row. is_plain_row row ≡ true) rows → map texts_of (lines_of (flat_map line rows)) ≡ rows
unfolding lines_of
rows-read rows plain = ap (λ bytes. map texts_of (fed_lines bytes)) (feeds-same (flat_map line rows) (rows-no_return rows plain)) ∙ rows-fed rows plain
