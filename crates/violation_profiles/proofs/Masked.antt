-- The masks of the condition of one profile over another.
use Rattle.std.proofs.Common.{◌≡◌, ◌⊎◌, ℕ, ◌+◌, ◌-◌, ◌*◌, ◌%◌, ◌^◌, ◌<◌, ◌≤◌, max, get_or, inl, inr, List, [], ◌∷◌, Bool, true, false, cond, length, map, take, slice_index, arith, refl, sym, ◌∙◌, ap}
use Rattle.std.specs.Prelude.{nat_lt, bit_or}
use Rattle.std.specs.Int.{bit_at, w32}
use Rattle.std.specs.Simd.Lanes.{chunk, mask_l, top, zip2}
use Rattle.std.proofs.lemmas.Bool.{cases_lt}
use Rattle.std.proofs.lemmas.List.{get_or_past, get_or-take, length-take-le}
use Rattle.std.proofs.lemmas.Nat.{pow_pos, pow-add}
use Rattle.std.proofs.Math.Nat.{mod-eq_of_lt, mul-lt-mul_of_pos_right, pow-le-pow_right}
use Rattle.std.proofs.lemmas.Nat.Bits.{bit_at_or, bit_at-zero, bit_at_cat_low, bit_at_cat_high}
use Rattle.std.proofs.lemmas.Simd.{bit_mask_l, get_or-chunk, get_or-zip2, length-chunk, length-zip2, mask_l-lt, mask_l-mod, tops_compared}
use Rattle.std.proofs.lemmas.Bool.Decides.{nat_tests}
use mir.Val.{bool_byte}
use Rattle.ot_theory.specs.declared.Mark.{Mark}
use Rattle.ot_theory.specs.declared.Mark.TheVariants.{W, L, E}
use Rattle.ot_theory.specs.Conditions.{condition, mark_at, mark_of, is_win, is_loss}
use Rattle.ot_theory.proofs.Keeping.{mark_at-condition, is_win-mark_of}
use Rattle.erc_vectors.specs.Masks.{IsMask}
use Rattle.erc_vectors.proofs.Bits.{IsMask-put, marks_of-masks}

pub length-condition : (a b : List ℕ) → length b ≡ length a → length (condition a b) ≡ length a
length-condition [] b e = refl
length-condition (x ∷ a) [] e = absurd (omega arith)
length-condition (x ∷ a) (y ∷ b) e = let rest = length-condition a b (omega arith) in omega arith

pub is_loss-mark_of : (x y : ℕ) → is_loss (mark_of x y) ≡ nat_lt y x
is_loss-mark_of x y = by (nat_lt x y) (nat_lt y x) refl refl
  where
    by : (b d : Bool) → nat_lt x y ≡ b → nat_lt y x ≡ d → is_loss (cond b W (cond d L E)) ≡ d
    by true true p q = grind (arith, nat_tests)
    by true false p q = refl
    by false true p q = refl
    by false false p q = refl

pub wins-more : (a b : List ℕ) (k mask : ℕ) → length b ≡ length a → k < length a → k < 64 → IsMask is_win (take k (condition a b)) mask
    → IsMask is_win (take (k + 1) (condition a b)) (bit_or mask (cond (nat_lt (slice_index a k) (slice_index b k)) 1 0 * 2 ^ k % 2 ^ 64))
wins-more a b k mask long within small h =
    IsMask-put is_win (condition a b) k mask (nat_lt (slice_index a k) (slice_index b k)) refl (omega (arith, length-condition a b long)) small
    (ap is_win (mark_at-condition a b k (sym long)) ∙ is_win-mark_of (slice_index a k) (slice_index b k)) h

pub losses-more : (a b : List ℕ) (k mask : ℕ) → length b ≡ length a → k < length a → k < 64 → IsMask is_loss (take k (condition a b)) mask
    → IsMask is_loss (take (k + 1) (condition a b)) (bit_or mask (cond (nat_lt (slice_index b k) (slice_index a k)) 1 0 * 2 ^ k % 2 ^ 64))
losses-more a b k mask long within small h =
    IsMask-put is_loss (condition a b) k mask (nat_lt (slice_index b k) (slice_index a k)) refl (omega (arith, length-condition a b long)) small
    (ap is_loss (mark_at-condition a b k (sym long)) ∙ is_loss-mark_of (slice_index a k) (slice_index b k)) h

-- ---- as many marks more as there are lanes
-- The bit of a constraint in a mask of lanes that begins at the start is that of its lane.
lane_before : (m s c : ℕ) → c < s → bit_at (m * 2 ^ s) c ≡ 0
lane_before m s c before = let same : m * 2 ^ s ≡ m * 2 ^ s + 0 = omega arith in rw same (bit_at_cat_low m s 0 c before ∙ bit_at-zero c)

lane_of : (m s c : ℕ) → s ≤ c → bit_at (m * 2 ^ s) c ≡ bit_at m (c - s)
lane_of m s c from = let same : m * 2 ^ s ≡ m * 2 ^ s + 0 = omega arith in rw same (bit_at_cat_high m s 0 c (pow_pos s) from)

abbrev lanes : ℕ → List ℕ → List ℕ → List Bool
lanes s xs ys = zip2 nat_lt (chunk s 4 xs) (chunk s 4 ys)

length-lanes : (s : ℕ) (xs ys : List ℕ) → s + 4 ≤ length xs → s + 4 ≤ length ys → length (lanes s xs ys) ≡ 4
length-lanes s xs ys x y =
    let long = length-chunk s 4 xs x in
    let same = length-chunk s 4 ys y in
    length-zip2 nat_lt (chunk s 4 xs) (chunk s 4 ys) (long ∙ sym same) ∙ long

-- what the lanes of a comparison give as bits, moved to where they begin
pub lanes-shifted : (s : ℕ) (xs ys : List ℕ) → s + 4 ≤ length xs → s + 4 ≤ length ys → s + 4 ≤ 64
    → mask_l (map (top 31) (zip2 (λ a b. cond (nat_lt a b) (2 ^ 32 - 1) 0) (chunk s 4 xs) (chunk s 4 ys))) % 2 ^ 64 * 2 ^ s % 2 ^ 64 ≡ mask_l (lanes s xs ys) * 2 ^ s
lanes-shifted s xs ys x y small =
    let long = length-lanes s xs ys x y in
    let fits : mask_l (lanes s xs ys) < 2 ^ 4 = rw long at (mask_l-lt (lanes s xs ys)) in
    let product : mask_l (lanes s xs ys) * 2 ^ s < 2 ^ 4 * 2 ^ s = mul-lt-mul_of_pos_right fits (pow_pos s) in
    let most : 2 ^ (4 + s) ≤ 2 ^ 64 = pow-le-pow_right {n = 2} (omega arith) {i = 4 + s} {j = 64} (omega arith) in
    let below : mask_l (lanes s xs ys) * 2 ^ s < 2 ^ 64 = (let sum = pow-add 2 4 s in omega (arith, sum, product, most)) in
    rw (tops_compared w32 nat_lt (chunk s 4 xs) (chunk s 4 ys), mask_l-mod (lanes s xs ys) 64 (omega (arith, long))) (mod-eq_of_lt below)

lane_at : (s c : ℕ) (xs ys : List ℕ) → s + 4 ≤ length xs → s + 4 ≤ length ys → s ≤ c → c < s + 4 → get_or (lanes s xs ys) (c - s) false ≡ nat_lt (slice_index xs c) (slice_index ys c)
lane_at s c xs ys x y from below =
    let at : s + (c - s) ≡ c = omega arith in
    let long = length-chunk s 4 xs x in
    let same = length-chunk s 4 ys y in
    get_or-zip2 nat_lt (chunk s 4 xs) (chunk s 4 ys) (c - s) 0 0 false (omega arith) (omega arith)
    ∙ rw (get_or-chunk s 4 xs (c - s) 0 (omega arith), get_or-chunk s 4 ys (c - s) 0 (omega arith), at) refl

-- a mark that passes a test where the one list has less than the other
IsMask-lanes : (test : Mark → Bool) (marks : List Mark) (xs ys : List ℕ) (s mask : ℕ) → test E ≡ false → s + 4 ≤ length marks → s + 4 ≤ length xs → s + 4 ≤ length ys
    → ((c : ℕ) → c < s + 4 → test (mark_at marks c) ≡ nat_lt (slice_index xs c) (slice_index ys c)) → IsMask test (take s marks) mask → IsMask test (take (s + 4) marks) (bit_or mask (mask_l (lanes s xs ys) * 2 ^ s))
IsMask-lanes test marks xs ys s mask even within x y tests h c = bit_at_or mask (mask_l (lanes s xs ys) * 2 ^ s) c ∙ by (cases_lt c s) (cases_lt c (s + 4))
  where
    m : ℕ
    m = mask_l (lanes s xs ys)

    none : s ≤ c → bit_at mask c ≡ 0
    none from = h c ∙ ap (λ (t : Bool). cond t 1 0) (ap test (get_or_past (take s marks) c E (omega (arith, length-take-le s marks (omega arith)))) ∙ even)

    by : (c < s) ⊎ (s ≤ c) → (c < s + 4) ⊎ (s + 4 ≤ c) → max (bit_at mask c) (bit_at (m * 2 ^ s) c) ≡ cond (test (mark_at (take (s + 4) marks) c)) 1 0
    by (inl before) r =
        let same : mark_at (take s marks) c ≡ mark_at (take (s + 4) marks) c = get_or-take s marks c E before ∙ sym (get_or-take (s + 4) marks c E (omega arith)) in
        rw (lane_before m s c before, ← same) (omega (arith, h c))
    by (inr from) (inl below) =
        let bit : bit_at m (c - s) ≡ cond (test (mark_at marks c)) 1 0 = bit_mask_l (lanes s xs ys) (c - s) ∙ ap (λ (t : Bool). cond t 1 0) (lane_at s c xs ys x y from below ∙ sym (tests c below)) in
        rw (lane_of m s c from, none from, bit, get_or-take (s + 4) marks c E below) (omega arith)
    by (inr from) (inr past) =
        let bit : bit_at m (c - s) ≡ 0 = bit_mask_l (lanes s xs ys) (c - s) ∙ ap (λ (t : Bool). cond t 1 0) (get_or_past (lanes s xs ys) (c - s) false (omega (arith, length-lanes s xs ys x y))) in
        let out : test (mark_at (take (s + 4) marks) c) ≡ false = ap test (get_or_past (take (s + 4) marks) c E (omega (arith, length-take-le (s + 4) marks within))) ∙ even in
        rw (lane_of m s c from, none from, bit, out) refl

pub wins-lanes : (a b : List ℕ) (s mask : ℕ) → length b ≡ length a → s + 4 ≤ length a → IsMask is_win (take s (condition a b)) mask
    → IsMask is_win (take (s + 4) (condition a b)) (bit_or mask (mask_l (lanes s a b) * 2 ^ s))
wins-lanes a b s mask long within h =
    IsMask-lanes is_win (condition a b) a b s mask refl (omega (arith, length-condition a b long)) within (omega arith)
    (λ c below. ap is_win (mark_at-condition a b c (sym long)) ∙ is_win-mark_of (slice_index a c) (slice_index b c)) h

pub losses-lanes : (a b : List ℕ) (s mask : ℕ) → length b ≡ length a → s + 4 ≤ length a → IsMask is_loss (take s (condition a b)) mask
    → IsMask is_loss (take (s + 4) (condition a b)) (bit_or mask (mask_l (lanes s b a) * 2 ^ s))
losses-lanes a b s mask long within h =
    IsMask-lanes is_loss (condition a b) b a s mask refl (omega (arith, length-condition a b long)) (omega arith) within
    (λ c below. ap is_loss (mark_at-condition a b c (sym long)) ∙ is_loss-mark_of (slice_index a c) (slice_index b c)) h

-- marks with the masks of others are those
pub same-masks : (n w l : ℕ) (marks others : List Mark) → length marks ≡ n → length others ≡ n → IsMask is_win marks w → IsMask is_loss marks l → IsMask is_win others w → IsMask is_loss others l → marks ≡ others
same-masks n w l marks others long same p q r s = sym (marks_of-masks n w l marks long p q) ∙ marks_of-masks n w l others same r s

-- a test as the number that it is cast to
pub bool_byte-cond : (t : Bool) → bool_byte t ≡ cond t 1 0
bool_byte-cond true = refl
bool_byte-cond false = refl
