-- The bit planes of profiles, and what two of them show.
use Rattle.std.proofs.Common.{◌≡◌, ℕ, zero, suc, ◌+◌, ◌-◌, ◌*◌, ◌%◌, ◌^◌, ◌<◌, ◌≤◌, min, inl, inr, List, [], ◌∷◌, ◌++◌, Bool, true, false, cond, length, map, take, drop, slice_index, arith, refl, sym, ◌∙◌, ap}
use Rattle.std.specs.Prelude.{nat_lt, nat_eq, bit_or, bit_and, bit_xor, replicate, not}
use Rattle.std.specs.Int.{bit_at, w32}
use Rattle.std.specs.Simd.Lanes.{mask_l, top, zip2}
use Rattle.std.proofs.lemmas.Bool.{cases_lt}
use Rattle.std.proofs.lemmas.Bool.Decides.{eqb_tells, nat_tests}
use Rattle.std.proofs.lemmas.List.{append_assoc, drop-take, get_or_past, get_or-map, length-map, take-append-drop, take_rest, take-take}
use Rattle.std.proofs.lemmas.Nat.{pow_pos, mod_below, mod-pow-add, one_shl, or_comm, or_shifted, shl_whole}
use Rattle.std.proofs.lemmas.Nat.Bits.{and_pow, bit_at_and, bit_at_xor, bit_at-lt, bit_at-zero}
use Rattle.std.proofs.lemmas.Simd.{bit_mask_l, bitmask_splat, map-map, mask_l-lt, mask_l-mod, tops_compared, zip2_splat, zip2_splat_left}
use Rattle.ot_theory.specs.Conditions.{condition, mark_at, is_win, is_loss}
use Rattle.ot_theory.proofs.Keeping.{mark_at-condition, is_win-mark_of}
use Rattle.violation_profiles.specs.Planes.{plane, planes_of, has_bit, is_large, AreFewer}
use Rattle.violation_profiles.proofs.Masked.{is_loss-mark_of}
use native.Mathlib.Nat.{pow-suc, mul_assoc}

-- ---- the plane of a list that goes on
mask_l-append : (bs more : List Bool) → mask_l (bs ++ more) ≡ mask_l bs + mask_l more * 2 ^ length bs
mask_l-append [] more = omega arith
mask_l-append (b ∷ bs) more =
    let product : mask_l more * 2 ^ suc (length bs) ≡ mask_l more * 2 ^ length bs * 2 = ap (λ (p : ℕ). mask_l more * p) (pow-suc 2 (length bs)) ∙ sym (mul_assoc (mask_l more) (2 ^ length bs) 2) in
    omega (arith, mask_l-append bs more, product)

map-append : (test : ℕ → Bool) (xs ys : List ℕ) → map test (xs ++ ys) ≡ map test xs ++ map test ys
map-append test [] ys = refl
map-append test (x ∷ xs) ys = ap (λ (l : List Bool). test x ∷ l) (map-append test xs ys)

plane-append : (test : ℕ → Bool) (xs ys : List ℕ) → plane test (xs ++ ys) ≡ plane test xs + plane test ys * 2 ^ length xs
plane-append test xs ys =
    ap mask_l (map-append test xs ys) ∙ mask_l-append (map test xs) (map test ys) ∙ ap (λ (n : ℕ). plane test xs + plane test ys * 2 ^ n) (length-map xs test)

plane-lt : (test : ℕ → Bool) (xs : List ℕ) → plane test xs < 2 ^ length xs
plane-lt test xs = rw (length-map xs test) at (mask_l-lt (map test xs))

-- the plane of the next lanes, put beside that of those before them
pub plane-put : (test : ℕ → Bool) (front lanes : List ℕ) (s old new : ℕ) → length front ≡ s → s + length lanes ≤ 64 → old ≡ plane test front → new ≡ plane test lanes
    → bit_or old (new * 2 ^ s % 2 ^ 64) ≡ plane test (front ++ lanes)
plane-put test front lanes s old new long small is more =
    let whole : plane test lanes * 2 ^ s % 2 ^ 64 ≡ plane test lanes * 2 ^ s = shl_whole (plane test lanes) (length lanes) s 64 (plane-lt test lanes) (omega arith) in
    let below : plane test front < 2 ^ s = rw long at (plane-lt test front) in
    rw (is, more, whole) (or_comm (plane test front) (plane test lanes * 2 ^ s) ∙ or_shifted (plane test lanes) s (plane test front) below ∙ omega (arith, rw long at (plane-append test front lanes)))

-- ---- the plane of lanes
pub lanes-large : (lanes : List ℕ) → length lanes ≡ 16 → mask_l (map (top 31) (zip2 (λ a b. cond (nat_lt a b) (2 ^ 32 - 1) 0) (replicate 16 7) lanes)) % 2 ^ 64 ≡ plane is_large lanes
lanes-large lanes long =
    ap (λ (bs : List Bool). mask_l bs % 2 ^ 64) (tops_compared w32 nat_lt (replicate 16 7) lanes ∙ zip2_splat_left nat_lt 7 16 lanes long)
    ∙ mask_l-mod (map is_large lanes) 64 (omega (arith, length-map lanes is_large, long))

bit_of : (k x : ℕ) → bit_at x k ≡ cond (has_bit k x) 1 0
bit_of k x = elim (eqb_tells (bit_at x k) 1) [
  | inl same ↦ rw same.0 same.1
  | inr other ↦ rw other.0 (omega (arith, other.1, bit_at-lt x k))
]

bit-tested : (k n : ℕ) → k < 32 → not (nat_eq (bit_and n (1 * 2 ^ k % 2 ^ 32)) 0) ≡ has_bit k n
bit-tested k n small =
    ap (λ (m : ℕ). not (nat_eq m 0)) (ap (bit_and n) (one_shl k 32 small) ∙ and_pow n k ∙ ap (λ (b : ℕ). b * 2 ^ k) (bit_of k n)) ∙ by (has_bit k n)
  where
    by : (t : Bool) → not (nat_eq (cond t 1 0 * 2 ^ k) 0) ≡ t
    by true = let p = pow_pos k in grind (arith, nat_tests)
    by false = grind (arith, nat_tests)

pub lanes-with_bit : (lanes : List ℕ) (k : ℕ) → length lanes ≡ 16 → k < 32
    → mask_l (map (top 31) (zip2 (λ a b. cond (not (nat_eq a b)) (2 ^ 32 - 1) 0) (zip2 bit_and lanes (replicate 16 (1 * 2 ^ k % 2 ^ 32))) (replicate 16 0))) % 2 ^ 64 ≡ plane (has_bit k) lanes
lanes-with_bit lanes k long small =
    let bit : ℕ = 1 * 2 ^ k % 2 ^ 32 in
    let kept = zip2_splat bit_and lanes 16 bit long in
    rw kept
    (bitmask_splat w32 (λ a b. not (nat_eq a b)) (map (λ n. bit_and n bit) lanes) 16 0 (length-map lanes (λ n. bit_and n bit) ∙ long) (omega arith)
    ∙ ap mask_l (map-map (λ n. not (nat_eq n 0)) (λ n. bit_and n bit) lanes ∙ map-same lanes))
  where
    map-same : (ns : List ℕ) → map (λ n. not (nat_eq (bit_and n (1 * 2 ^ k % 2 ^ 32)) 0)) ns ≡ map (has_bit k) ns
    map-same [] = refl
    map-same (n ∷ ns) = rw (bit-tested k n small, map-same ns) refl

pub lanes-next : (xs : List ℕ) (k : ℕ) → take (16 * k) xs ++ take 16 (drop (16 * k) xs) ≡ take (16 * (k + 1)) xs
lanes-next xs k =
    let next : 16 * (k + 1) ≡ 16 * k + 16 = omega arith in
    rw (next, ← drop-take (16 * k) 16 xs, ← take-take (16 * k) (16 * k + 16) xs (omega arith)) (take-append-drop (16 * k) (take (16 * k + 16) xs))

pub whole-padded : (xs : List ℕ) (s : ℕ) (zeros : List ℕ) → take s xs ++ (take (length xs - s) (drop s xs) ++ zeros) ≡ xs ++ zeros
whole-padded xs s zeros = rw (take_rest xs s, ← append_assoc (take s xs) (drop s xs) zeros, take-append-drop s xs) refl

-- ---- zeros behind a profile are in no plane
plane-zeros : (test : ℕ → Bool) (n : ℕ) → test 0 ≡ false → plane test (replicate n 0) ≡ 0
plane-zeros test zero none = refl
plane-zeros test (suc n) none = rw none (omega (arith, plane-zeros test n none))

plane-padded : (test : ℕ → Bool) (xs : List ℕ) (n : ℕ) → test 0 ≡ false → plane test (xs ++ replicate n 0) ≡ plane test xs
plane-padded test xs n none = plane-append test xs (replicate n 0) ∙ rw (plane-zeros test n none) (omega arith)

pub planes_of-padded : (xs : List ℕ) (n : ℕ) → planes_of (xs ++ replicate n 0) ≡ planes_of xs
planes_of-padded xs n = rw (plane-padded (has_bit 0) xs n refl, plane-padded (has_bit 1) xs n refl, plane-padded (has_bit 2) xs n refl, plane-padded is_large xs n refl) refl

-- ---- a bit of a plane
pub plane-bit : (test : ℕ → Bool) (xs : List ℕ) (c : ℕ) → test 0 ≡ false → bit_at (plane test xs) c ≡ cond (test (slice_index xs c)) 1 0
plane-bit test xs c none = bit_mask_l (map test xs) c ∙ ap (λ (t : Bool). cond t 1 0) (elim (cases_lt c (length xs)) [
  | inl below ↦ get_or-map test xs c 0 false below
  | inr past ↦ get_or_past (map test xs) c false (omega (arith, length-map xs test)) ∙ sym (ap test (get_or_past xs c 0 past) ∙ none)
])

-- where no violation is large, three bits tell each
pub small-at : (xs : List ℕ) (c : ℕ) → plane is_large xs ≡ 0 → slice_index xs c % 2 ^ 3 ≡ slice_index xs c
small-at xs c none = by (is_large (slice_index xs c)) refl
  where
    bit : ◌≡◌ {A = ℕ} 0 (cond (is_large (slice_index xs c)) 1 0)
    bit = sym (bit_at-zero c) ∙ ap (λ (m : ℕ). bit_at m c) (sym none) ∙ plane-bit is_large xs c refl

    by : (t : Bool) → is_large (slice_index xs c) ≡ t → slice_index xs c % 2 ^ 3 ≡ slice_index xs c
    by true e = absurd (omega (arith, bit, ap (λ (t : Bool). cond {A = ℕ} t 1 0) e))
    by false e = grind (arith, nat_tests)

-- ---- one bit more, which decides where the two differ in it
abbrev decided : Bool → Bool → Bool → Bool
decided s t lower = cond s (cond t lower false) (cond t true lower)

low-more : (k x : ℕ) → x % 2 ^ (k + 1) ≡ bit_at x k * 2 ^ k + x % 2 ^ k
low-more k x = let turned : k + 1 ≡ 1 + k = omega arith in ap (λ (j : ℕ). x % 2 ^ j) turned ∙ mod-pow-add x 1 k

compared : (p u v : ℕ) (s t : Bool) → u < p → v < p → nat_lt (cond s 1 0 * p + u) (cond t 1 0 * p + v) ≡ decided s t (nat_lt u v)
compared p u v true true a b = grind (arith, nat_tests)
compared p u v true false a b = grind (arith, nat_tests)
compared p u v false true a b = grind (arith, nat_tests)
compared p u v false false a b = grind (arith, nat_tests)

low-compared : (k x y : ℕ) → nat_lt (x % 2 ^ (k + 1)) (y % 2 ^ (k + 1)) ≡ decided (has_bit k x) (has_bit k y) (nat_lt (x % 2 ^ k) (y % 2 ^ k))
low-compared k x y =
    ap (λ (l : ℕ). nat_lt l (y % 2 ^ (k + 1))) (low-more k x ∙ ap (λ (b : ℕ). b * 2 ^ k + x % 2 ^ k) (bit_of k x))
    ∙ ap (nat_lt (cond (has_bit k x) 1 0 * 2 ^ k + x % 2 ^ k)) (low-more k y ∙ ap (λ (b : ℕ). b * 2 ^ k + y % 2 ^ k) (bit_of k y))
    ∙ compared (2 ^ k) (x % 2 ^ k) (y % 2 ^ k) (has_bit k x) (has_bit k y) (mod_below x (2 ^ k) (pow_pos k)) (mod_below y (2 ^ k) (pow_pos k))

refined-bit : (s t lower : Bool) → (cond lower 1 0 + min ((cond lower 1 0 + cond t 1 0) % 2) ((cond s 1 0 + cond t 1 0) % 2)) % 2 ≡ cond (decided s t lower) 1 0
refined-bit true true true = refl
refined-bit true true false = refl
refined-bit true false true = refl
refined-bit true false false = refl
refined-bit false true true = refl
refined-bit false true false = refl
refined-bit false false true = refl
refined-bit false false false = refl

pub AreFewer-refined : (k : ℕ) (xs ys : List ℕ) (fewer a b : ℕ) → has_bit k 0 ≡ false → a ≡ plane (has_bit k) xs → b ≡ plane (has_bit k) ys → AreFewer k xs ys fewer
    → AreFewer (k + 1) xs ys (bit_xor fewer (bit_and (bit_xor fewer b) (bit_xor a b)))
AreFewer-refined k xs ys fewer a b none is_a is_b h c =
    let x = slice_index xs c in
    let y = slice_index ys c in
    let bit_a : bit_at a c ≡ cond (has_bit k x) 1 0 = ap (λ (m : ℕ). bit_at m c) is_a ∙ plane-bit (has_bit k) xs c none in
    let bit_b : bit_at b c ≡ cond (has_bit k y) 1 0 = ap (λ (m : ℕ). bit_at m c) is_b ∙ plane-bit (has_bit k) ys c none in
    bit_at_xor fewer (bit_and (bit_xor fewer b) (bit_xor a b)) c
    ∙ rw (bit_at_and (bit_xor fewer b) (bit_xor a b) c, bit_at_xor fewer b c, bit_at_xor a b c, bit_a, bit_b, h c) (refined-bit (has_bit k x) (has_bit k y) (nat_lt (x % 2 ^ k) (y % 2 ^ k)))
    ∙ ap (λ (t : Bool). cond t 1 0) (sym (low-compared k x y))

no-bit : (k : ℕ) → has_bit k 0 ≡ false
no-bit k = rw (bit_at-zero k) refl

pub AreFewer-more : (k : ℕ) (xs ys : List ℕ) (fewer a b : ℕ) → a ≡ plane (has_bit k) xs → b ≡ plane (has_bit k) ys → AreFewer k xs ys fewer
    → AreFewer (k + 1) xs ys (bit_xor fewer (bit_and (bit_xor fewer b) (bit_xor a b)))
AreFewer-more k xs ys fewer a b is_a is_b h = AreFewer-refined k xs ys fewer a b (no-bit k) is_a is_b h

-- no bits tell nothing
pub AreFewer-none : (xs ys : List ℕ) → AreFewer 0 xs ys 0
AreFewer-none xs ys c =
    let x : slice_index xs c % 2 ^ 0 ≡ 0 = omega arith in
    let y : slice_index ys c % 2 ^ 0 ≡ 0 = omega arith in
    rw (x, y) (bit_at-zero c)

-- ---- three bits give the marks of a condition
pub win-told : (a b : List ℕ) (c : ℕ) → length b ≡ length a → plane is_large a ≡ 0 → plane is_large b ≡ 0
    → nat_lt (slice_index a c % 2 ^ 3) (slice_index b c % 2 ^ 3) ≡ is_win (mark_at (condition a b) c)
win-told a b c long small_a small_b =
    rw (small-at a c small_a, small-at b c small_b) (sym (ap is_win (mark_at-condition a b c (sym long)) ∙ is_win-mark_of (slice_index a c) (slice_index b c)))

pub loss-told : (a b : List ℕ) (c : ℕ) → length b ≡ length a → plane is_large a ≡ 0 → plane is_large b ≡ 0
    → nat_lt (slice_index b c % 2 ^ 3) (slice_index a c % 2 ^ 3) ≡ is_loss (mark_at (condition a b) c)
loss-told a b c long small_a small_b =
    rw (small-at a c small_a, small-at b c small_b) (sym (ap is_loss (mark_at-condition a b c (sym long)) ∙ is_loss-mark_of (slice_index a c) (slice_index b c)))
