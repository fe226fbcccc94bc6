-- The cells of one digit with which a line begins.
use Rattle.std.proofs.Common.{◌≡◌, ℕ, ◌+◌, ◌-◌, ◌<◌, ◌==◌, List, [], ◌∷◌, ◌++◌, Bool, true, false, length, map, take, drop, set, get_or, refl, sym, ◌∙◌, ap, subst, arith}
use Rattle.std.specs.List.{onto_first, prefix_len}
use Rattle.std.proofs.lemmas.Bool.{false_from_ne_true, eqb-true}
use Rattle.std.proofs.lemmas.List.{length-map, take_more, get_or-drop, drop-drop, length-drop, length-take-le, set-append_right, map_push, append_assoc}
use Rattle.std.proofs.lemmas.List.Splits.{slice_split-cons_yes, slice_split-cons_no}
use Rattle.tab_cells.specs.Cells.{cells_of, is_digit, is_one_digit, digit_of}

abbrev is_tab : ℕ → Bool
is_tab c = c == 9

not_tab : (d : ℕ) → is_digit d ≡ true → is_tab d ≡ false
not_tab d h = false_from_ne_true (is_tab d) (λ e. let nine : is_digit 9 ≡ true = subst (λ (c : ℕ). is_digit c ≡ true) (eqb-true d 9 e) h in absurd (cc))

-- ---- what is left of a line begins with such a cell
cell-last : (d : ℕ) → is_digit d ≡ true → cells_of (d ∷ []) ≡ (d ∷ []) ∷ []
cell-last d h = slice_split-cons_no is_tab d [] (not_tab d h)

cell-first : (d : ℕ) (rest : List ℕ) → is_digit d ≡ true → cells_of (d ∷ 9 ∷ rest) ≡ (d ∷ []) ∷ cells_of rest
cell-first d rest h = slice_split-cons_no is_tab d (9 ∷ rest) (not_tab d h) ∙ ap (onto_first d) (slice_split-cons_yes is_tab 9 rest refl)

pub last-left : (left : List ℕ) → length left ≡ 1 → is_digit (get_or left 0 0) ≡ true → cells_of left ≡ (get_or left 0 0 ∷ []) ∷ []
last-left [] one h = absurd (omega (arith, one))
last-left (d ∷ []) one h = cell-last d h
last-left (d ∷ e ∷ rest) one h = absurd (omega (arith, one))

pub first-left : (left : List ℕ) → 1 < length left → is_digit (get_or left 0 0) ≡ true → get_or left 1 0 ≡ 9 → cells_of left ≡ (get_or left 0 0 ∷ []) ∷ cells_of (drop 2 left)
first-left [] long h tab = absurd (omega (arith, long))
first-left (d ∷ []) long h tab = absurd (omega (arith, long))
first-left (d ∷ e ∷ rest) long h tab = subst (λ (c : ℕ). cells_of (d ∷ c ∷ rest) ≡ (d ∷ []) ∷ cells_of rest) (sym tab) (cell-first d rest h)

-- ---- one cell more is taken
pub prefix-more : (d : ℕ) (parts : List (List ℕ)) → is_digit d ≡ true → prefix_len is_one_digit ((d ∷ []) ∷ parts) ≡ 1 + prefix_len is_one_digit parts
prefix-more d parts h = rw h refl

at-front : {X : Type 0} (k : ℕ) (xs : List X) (x : X) (more : List X) → drop k xs ≡ x ∷ more → (k < length xs) × (get_or xs k x ≡ x)
at-front {X = X} k xs x more front =
    let long = ap length front ∙ refl in
    (omega (arith, long, length-drop k xs), let same : k + 0 ≡ k = omega arith in ap (λ j. get_or xs j x) (sym same) ∙ sym (get_or-drop k xs 0 x) ∙ ap (λ (l : List X). get_or l 0 x) front)

pub drop-front : {X : Type 0} (k : ℕ) (xs : List X) (x : X) (more : List X) → drop k xs ≡ x ∷ more → drop (k + 1) xs ≡ more
drop-front k xs x more front = sym (drop-drop 1 k xs) ∙ ap (drop 1) front

pub take-front : {X : Type 0} (k : ℕ) (xs : List X) (x : X) (more : List X) → drop k xs ≡ x ∷ more → take (k + 1) xs ≡ take k xs ++ x ∷ []
take-front k xs x more front =
    let at = at-front k xs x more front in
    take_more xs k x at.0 ∙ ap (λ y. take k xs ++ y ∷ []) at.1

set-front : {X : Type 0} (ys : List X) (y v : X) (more : List X) → ys ≡ y ∷ more → set ys 0 v ≡ v ∷ more
set-front {X = X} ys y v more is = ap (λ (l : List X). set l 0 v) is

some-front : (k : ℕ) (old : List ℕ) → k < length old → drop k old ≡ get_or (drop k old) 0 0 ∷ drop (k + 1) old
some-front k old within = by (drop k old) refl
  where
    by : (l : List ℕ) → drop k old ≡ l → drop k old ≡ get_or (drop k old) 0 0 ∷ drop (k + 1) old
    by [] is = absurd (omega (arith, within, length-drop k old, ap length is))
    by (y ∷ more) is = rw (drop-front k old y more is, is) refl

-- the numbers of the cells taken, and what stood there behind them
pub numbers-more : (k : ℕ) (cells : List (List ℕ)) (cell : List ℕ) (more : List (List ℕ)) (old numbers : List ℕ) (v : ℕ)
    → drop k cells ≡ cell ∷ more → k < length old → numbers ≡ map digit_of (take k cells) ++ drop k old → v ≡ digit_of cell
    → set numbers k v ≡ map digit_of (take (k + 1) cells) ++ drop (k + 1) old
numbers-more k cells cell more old numbers v front within is value =
    let taken = map digit_of (take k cells) in
    let at = at-front k cells cell more front in
    let long : length taken ≡ k = omega (arith, length-map (take k cells) digit_of, length-take-le k cells (omega (arith, at.0))) in
    let first : k - k ≡ 0 = omega arith in
    ap (λ (l : List ℕ). set l k v) is
    ∙ set-append_right taken (drop k old) k k v long (omega arith)
    ∙ ap (λ j. taken ++ set (drop k old) j v) first
    ∙ ap (λ (l : List ℕ). taken ++ l) (set-front (drop k old) _ v (drop (k + 1) old) (some-front k old within))
    ∙ sym (append_assoc taken (v ∷ []) (drop (k + 1) old))
    ∙ ap (λ (l : List ℕ). l ++ drop (k + 1) old) (ap (λ w. taken ++ w ∷ []) value ∙ sym (ap (map digit_of) (take-front k cells cell more front) ∙ map_push digit_of (take k cells) cell))
