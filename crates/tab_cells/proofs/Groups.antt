-- Cells of one digit, taken in groups.
use Rattle.std.proofs.Common.{◌≡◌, ℕ, zero, suc, ◌+◌, ◌-◌, ◌*◌, ◌%◌, ◌<◌, ◌≤◌, List, [], ◌∷◌, ◌++◌, true, length, map, take, drop, set, get_or, refl, sym, ◌∙◌, ap, arith}
use Rattle.std.specs.Prelude.{replicate}
use Rattle.std.specs.List.{prefix_len}
use Rattle.std.specs.Simd.Lanes.{Each1, chunk, digits_l, number_l, put_chunk, zip2}
use Rattle.std.proofs.lemmas.Bool.Decides.{nat_tests}
use Rattle.std.proofs.lemmas.List.{get_or-drop, get_or-map, drop-drop, length-drop, length-map, length-set}
use Rattle.std.proofs.lemmas.Simd.{get_or-chunk, get_or_wider, length-chunk, zip2_splat}
use Rattle.tab_cells.specs.Cells.{cells_of, is_digit, is_one_digit, digit_of, pair_of}
use Rattle.tab_cells.proofs.Digits.{first-left, prefix-more, drop-front, numbers-more}

-- ---- the pair of bytes in a lane
pair : (bytes : List ℕ) → length bytes ≡ 2 → number_l 256 bytes ≡ get_or bytes 0 0 + 256 * get_or bytes 1 0
pair [] two = absurd (omega arith)
pair (c ∷ []) two = absurd (omega arith)
pair (c ∷ d ∷ []) two = omega arith
pair (c ∷ d ∷ e ∷ more) two = absurd (omega arith)

pub lane-pair : (line : List ℕ) (k j : ℕ) → 2 * k + 16 ≤ length line → j < 8 → Each1 (λ c. c < 256) (chunk (2 * k) 16 line)
    → get_or (digits_l 65536 8 (number_l 256 (chunk (2 * k) 16 line))) j 0 ≡ get_or line (2 * (k + j)) 0 + 256 * get_or line (2 * (k + j) + 1) 0
lane-pair line k j room below small =
    let bytes = chunk (2 * k) 16 line in
    let first : 2 * k + (2 * j + 0) ≡ 2 * (k + j) = omega arith in
    let second : 2 * k + (2 * j + 1) ≡ 2 * (k + j) + 1 = omega arith in
    get_or_wider 256 2 65536 8 bytes j refl small below
    ∙ pair (chunk (2 * j) 2 bytes) (length-chunk (2 * j) 2 bytes (omega (arith, length-chunk (2 * k) 16 line room)))
    ∙ rw (get_or-chunk (2 * j) 2 bytes 0 0 (omega arith), get_or-chunk (2 * j) 2 bytes 1 0 (omega arith), get_or-chunk (2 * k) 16 line (2 * j + 0) 0 (omega arith), get_or-chunk (2 * k) 16 line (2 * j + 1) 0 (omega arith), first, second) refl

abbrev wrapped : ℕ → ℕ → ℕ
wrapped x y = (x + (65536 - y)) % 65536

pub lane-pair_of : (line : List ℕ) (k j : ℕ) → 2 * k + 16 ≤ length line → j < 8 → Each1 (λ c. c < 256) (chunk (2 * k) 16 line)
    → get_or (zip2 wrapped (digits_l 65536 8 (number_l 256 (chunk (2 * k) 16 line))) (replicate 8 2352)) j 0 ≡ pair_of (get_or line (2 * (k + j)) 0) (get_or line (2 * (k + j) + 1) 0)
lane-pair_of line k j room below small =
    let lanes = digits_l 65536 8 (number_l 256 (chunk (2 * k) 16 line)) in
    ap (λ (l : List ℕ). get_or l j 0) (zip2_splat wrapped lanes 8 2352 refl)
    ∙ get_or-map (λ (x : ℕ). wrapped x 2352) lanes j 0 0 (omega arith)
    ∙ ap (λ (x : ℕ). wrapped x 2352) (lane-pair line k j room below small)

-- ---- a pair that is a digit and a tab
pub digit-of_pair : (c d : ℕ) → c < 256 → d < 256 → pair_of c d ≤ 9 → (is_digit c ≡ true) × (d ≡ 9) × (pair_of c d ≡ c - 48)
digit-of_pair c d fits_c fits_d low =
    let tab : d ≡ 9 = omega arith in
    let least : 48 ≤ c = omega arith in
    let most : c ≤ 57 = omega arith in
    (grind (arith, nat_tests), tab, omega arith)

-- ---- the cells taken so far
pub record AreTaken (line old : List ℕ) (k : ℕ) (numbers : List ℕ) : Type 0 where
  pub long : length numbers ≡ length old
  pub rest : drop k (cells_of line) ≡ cells_of (drop (2 * k) line)
  pub passes : prefix_len is_one_digit (cells_of line) ≡ k + prefix_len is_one_digit (cells_of (drop (2 * k) line))
  pub values : numbers ≡ map digit_of (take k (cells_of line)) ++ drop k old

taken-more : (line old : List ℕ) (k : ℕ) (numbers : List ℕ) (v : ℕ) → AreTaken line old k numbers → 2 * k + 2 ≤ length line → k < length old
    → is_digit (get_or line (2 * k) 0) ≡ true → get_or line (2 * k + 1) 0 ≡ 9 → v ≡ get_or line (2 * k) 0 - 48 → AreTaken line old (k + 1) (set numbers k v)
taken-more line old k numbers v h room within digit tab value =
    let left = drop (2 * k) line in
    let long : 1 < length left = omega (arith, length-drop (2 * k) line) in
    let here : 2 * k + 0 ≡ 2 * k = omega arith in
    let byte : get_or left 0 0 ≡ get_or line (2 * k) 0 = get_or-drop (2 * k) line 0 0 ∙ ap (λ (i : ℕ). get_or line i 0) here in
    let first = first-left left long (ap is_digit byte ∙ digit) (get_or-drop (2 * k) line 1 0 ∙ tab) in
    let front = h.rest ∙ first in
    let next : drop 2 left ≡ drop (2 * (k + 1)) line = drop-drop 2 (2 * k) line ∙ ap (λ j. drop j line) (omega arith) in
    let one : prefix_len is_one_digit (cells_of left) ≡ 1 + prefix_len is_one_digit (cells_of (drop (2 * (k + 1)) line)) =
    ap (prefix_len is_one_digit) first ∙ prefix-more (get_or left 0 0) (cells_of (drop 2 left)) (ap is_digit byte ∙ digit) ∙ ap (λ l. 1 + prefix_len is_one_digit (cells_of l)) next
    in
    record {
      long = omega (arith, length-set numbers k v, h.long);
      rest = drop-front k (cells_of line) (get_or left 0 0 ∷ []) (cells_of (drop 2 left)) front ∙ ap cells_of next;
      passes = omega (arith, h.passes, one);
      values = numbers-more k (cells_of line) (get_or left 0 0 ∷ []) (cells_of (drop 2 left)) old numbers v front within h.values (value ∙ ap (λ (c : ℕ). c - 48) (sym byte));
    }

-- ---- the numbers of a group, put down at once
put-none : (k : ℕ) (numbers : List ℕ) → put_chunk k numbers [] ≡ numbers
put-none k [] = refl
put-none zero (n ∷ numbers) = refl
put-none (suc k) (n ∷ numbers) = ap (λ (l : List ℕ). n ∷ l) (put-none k numbers)

put-first : (k : ℕ) (numbers : List ℕ) (v : ℕ) (vs : List ℕ) → k < length numbers → put_chunk k numbers (v ∷ vs) ≡ put_chunk (suc k) (set numbers k v) vs
put-first k [] v vs within = absurd (omega arith)
put-first zero (n ∷ numbers) v vs within = refl
put-first (suc k) (n ∷ numbers) v vs within = ap (λ (l : List ℕ). n ∷ l) (put-first k numbers v vs (omega arith))

-- each of these values is that of a pair of bytes which is a digit and a tab
abbrev pub AreDigits : List ℕ → ℕ → List ℕ → Type 0
AreDigits line k vs = (j : ℕ) → j < length vs → (get_or vs j 0 ≡ pair_of (get_or line (2 * (k + j)) 0) (get_or line (2 * (k + j) + 1) 0)) × (get_or vs j 0 ≤ 9)

pub group-taken : (line old vs : List ℕ) (k : ℕ) (numbers : List ℕ) → AreTaken line old k numbers → 2 * k + 2 * length vs ≤ length line → k + length vs ≤ length old
    → ((i : ℕ) → get_or line i 0 < 256) → AreDigits line k vs → AreTaken line old (k + length vs) (put_chunk k numbers vs)
group-taken line old [] k numbers h room within small are =
    let same : k + 0 ≡ k = omega arith in
    rw (same, put-none k numbers) h
group-taken line old (v ∷ vs) k numbers h room within small are =
    let here : k + 0 ≡ k = omega arith in
    let value = rw here at (are 0 (omega arith)) in
    let digit = digit-of_pair (get_or line (2 * k) 0) (get_or line (2 * k + 1) 0) (small (2 * k)) (small (2 * k + 1)) (omega (arith, value.0, value.1)) in
    let more = taken-more line old k numbers v h (omega arith) (omega arith) digit.0 digit.1 (value.0 ∙ digit.2) in
    let later : AreDigits line (k + 1) vs = λ j below. (let next : k + 1 + j ≡ k + suc j = omega arith in rw next (are (suc j) (omega arith))) in
    let end : k + 1 + length vs ≡ k + suc (length vs) = omega arith in
    let one : k + 1 ≡ suc k = omega arith in
    let all = group-taken line old vs (k + 1) (set numbers k v) more (omega arith) (omega arith) small later in
    rw (put-first k numbers v vs (omega (arith, h.long)), ← end, ← one) all

pub pairs-taken : (line old pairs numbers : List ℕ) (k m : ℕ) (f : ℕ → ℕ) → ((x : ℕ) → f x ≡ x) → length pairs ≡ 8 → k + 8 ≡ m → AreTaken line old k numbers → 2 * k + 16 ≤ length line → k + 8 ≤ length old
    → ((i : ℕ) → get_or line i 0 < 256) → ((j : ℕ) → j < 8 → get_or pairs j 0 ≡ pair_of (get_or line (2 * (k + j)) 0) (get_or line (2 * (k + j) + 1) 0)) → ((j : ℕ) → j < 8 → get_or pairs j 0 ≤ 9)
    → AreTaken line old m (put_chunk k numbers (map f pairs))
pairs-taken line old pairs numbers k m f same eight end h room within small values low =
    let long : length (map f pairs) ≡ 8 = length-map pairs f ∙ eight in
    let at : (j : ℕ) → j < 8 → get_or (map f pairs) j 0 ≡ get_or pairs j 0 = λ j below. get_or-map f pairs j 0 0 (omega (arith, eight)) ∙ same (get_or pairs j 0) in
    let all : k + length (map f pairs) ≡ m = omega (arith, long, end) in
    rw all at
    (group-taken line old (map f pairs) k numbers h (omega (arith, long)) (omega (arith, long)) small
    (λ j below. (at j (omega (arith, long)) ∙ values j (omega (arith, long)), (let one = at j (omega (arith, long)) in omega (arith, one, low j (omega (arith, long)))))))
