-- A cell of one digit, whose text it is itself.
use Rattle.std.proofs.Common.{◌≡◌, ◌≤◌, ◌<◌, ◌+◌, ◌-◌, ◌∙◌, ◌&&◌, ℕ, zero, suc, List, [], ◌∷◌, ◌++◌, Bool, true, false, length, map, take, get_or, arith, refl, ap, sym, subst}
use Rattle.std.specs.Prelude.{nat_le}
use Rattle.std.specs.List.{list_all, prefix_len, range_with_len}
use Rattle.std.proofs.Math.Numerals.{add-one}
use Rattle.std.proofs.lemmas.Bool.{ne_eqb, le-leb, leb-true}
use Rattle.std.proofs.lemmas.List.{take_more, get_or-map, map_push}
use Rattle.std.proofs.lemmas.List.Folds.{list_all-append}
use Rattle.std.proofs.lemmas.List.Sums.{prefix_len-le-length, prefix_len_passes}
use Rattle.tab_cells.specs.Cells.{is_one_digit, digit_of, text_of, trimmed, trimmed_start, trimmed_end}
use Rattle.tab_cells.proofs.TextOf.{text_of-unquoted}
use Rattle.tableau_file.specs.Numbers.{is_violation, value_of}
use Rattle.tableau_file.specs.Rows.{cell}
use Rattle.tableau_file.proofs.Columns.{columns_more}

text_of-digit : (d : ℕ) → 48 ≤ d → text_of (d ∷ []) ≡ d ∷ []
text_of-digit d low =
    let other = ne_eqb d 32 (λ e. omega (arith, e, low)) in
    let start : trimmed_start (d ∷ []) ≡ d ∷ [] = rw other refl in
    let end : trimmed_end (d ∷ []) ≡ d ∷ [] = rw other refl in
    let whole : trimmed (d ∷ []) ≡ d ∷ [] = ap trimmed_end start ∙ end in
    text_of-unquoted (d ∷ []) (rw whole refl) ∙ whole

value-digit : (d : ℕ) → 48 ≤ d → value_of (text_of (d ∷ [])) ≡ d - 48
value-digit d low =
    let alone : 0 + (d - 48) ≡ d - 48 = omega arith in
    rw (text_of-digit d low) alone

violation-digit : (d : ℕ) → 48 ≤ d → d ≤ 57 → is_violation (text_of (d ∷ [])) ≡ true
violation-digit d low high =
    let small : 0 + (d - 48) ≤ 1000000 = omega (arith, high) in
    rw (text_of-digit d low, le-leb 48 d low, le-leb d 57 high, le-leb (0 + (d - 48)) 1000000 small) refl

both : (a b : Bool) → (a && b) ≡ true → (a ≡ true) × (b ≡ true)
both true true h = (refl, refl)
both true false h = absurd (cc)
both false b h = absurd (cc)

-- the same of a cell
violation-one : (cell : List ℕ) → is_one_digit cell ≡ true → is_violation (text_of cell) ≡ true
violation-one [] h = absurd (cc)
violation-one (d ∷ []) h = let in_range = both (nat_le 48 d) (nat_le d 57) h in violation-digit d (leb-true 48 d in_range.0) (leb-true d 57 in_range.1)
violation-one (d ∷ e ∷ rest) h = absurd (cc)

value-one : (cell : List ℕ) → is_one_digit cell ≡ true → value_of (text_of cell) ≡ digit_of cell
value-one [] h = absurd (cc)
value-one (d ∷ []) h = let in_range = both (nat_le 48 d) (nat_le d 57) h in value-digit d (leb-true 48 d in_range.0)
value-one (d ∷ e ∷ rest) h = absurd (cc)

-- the first cells of a line, where each is one digit
text-at : (t : ℕ) (cells : List (List ℕ)) → t < prefix_len is_one_digit cells → cell (map text_of cells) t ≡ text_of (get_or cells t [])
text-at t cells h = get_or-map text_of cells t [] [] (omega (arith, h, prefix_len-le-length is_one_digit cells))

pub digits-are_violations : (t : ℕ) (cells : List (List ℕ)) → t ≤ prefix_len is_one_digit cells → list_all is_violation (map (cell (map text_of cells)) (range_with_len 0 t)) ≡ true
digits-are_violations zero cells h = refl
digits-are_violations (suc t) cells h =
    let texts = map text_of cells in
    let below : t < prefix_len is_one_digit cells = omega (arith, h) in
    let violation : is_violation (cell texts t) ≡ true = ap is_violation (text-at t cells below) ∙ violation-one (get_or cells t []) (prefix_len_passes is_one_digit cells t [] below) in
    let before = digits-are_violations t cells (omega (arith, h)) in
    subst (λ (j : ℕ). list_all is_violation (map (cell texts) (range_with_len 0 j)) ≡ true) (add-one t)
    (ap (list_all is_violation) (columns_more t texts)
    ∙ list_all-append is_violation (map (cell texts) (range_with_len 0 t)) (cell texts t ∷ [])
    ∙ rw (before, violation) refl)

pub digits-are_values : (t : ℕ) (cells : List (List ℕ)) → t ≤ prefix_len is_one_digit cells → map digit_of (take t cells) ≡ map value_of (map (cell (map text_of cells)) (range_with_len 0 t))
digits-are_values zero cells h = refl
digits-are_values (suc t) cells h =
    let texts = map text_of cells in
    let first = get_or cells t [] in
    let below : t < prefix_len is_one_digit cells = omega (arith, h) in
    let value : value_of (cell texts t) ≡ digit_of first = ap value_of (text-at t cells below) ∙ value-one first (prefix_len_passes is_one_digit cells t [] below) in
    let before = map (cell texts) (range_with_len 0 t) in
    subst (λ (j : ℕ). map digit_of (take j cells) ≡ map value_of (map (cell texts) (range_with_len 0 j))) (add-one t)
    (ap (map digit_of) (take_more cells t [] (omega (arith, below, prefix_len-le-length is_one_digit cells)))
    ∙ map_push digit_of (take t cells) first
    ∙ ap (λ (l : List ℕ). l ++ digit_of first ∷ []) (digits-are_values t cells (omega (arith, h)))
    ∙ ap (λ (v : ℕ). map value_of before ++ v ∷ []) (sym value)
    ∙ sym (ap (map value_of) (columns_more t texts) ∙ map_push value_of before (cell texts t)))

-- the same of a cell by its one byte
pub violation-single : (cell : List ℕ) → length cell ≡ 1 → 48 ≤ get_or cell 0 0 → get_or cell 0 0 ≤ 57 → is_violation (text_of cell) ≡ true
violation-single [] one low high = absurd (omega (arith, one))
violation-single (d ∷ []) one low high = violation-digit d low high
violation-single (d ∷ e ∷ rest) one low high = absurd (omega (arith, one))

pub value-single : (cell : List ℕ) → length cell ≡ 1 → 48 ≤ get_or cell 0 0 → get_or cell 0 0 ≤ 57 → value_of (text_of cell) ≡ get_or cell 0 0 - 48
value-single [] one low high = absurd (omega (arith, one))
value-single (d ∷ []) one low high = value-digit d low
value-single (d ∷ e ∷ rest) one low high = absurd (omega (arith, one))
