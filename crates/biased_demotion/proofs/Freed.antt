-- How many markedness constraints a constraint makes free that is placed alone, by masks as by the numbers.
use Rattle.std.proofs.Common.{◌≡◌, ◌≢◌, ℕ, zero, suc, ◌-◌, ◌^◌, ◌<◌, ◌≤◌, min, max, ◌⊎◌, List, Bool, true, false, not, ◌&&◌, ◌||◌, ◌==◌, cond, length, slice_index, arith, refl, sym, ap, ◌∙◌, inl, inr}
use Rattle.std.specs.Prelude.{bit_and, bit_or, nat_lt, All, count_by, count_ones, slice_set}
use Rattle.std.specs.Int.{bit_at, bit_not, w64}
use Rattle.std.proofs.lemmas.Bool.Decides.{eqb_tells}
use Rattle.std.proofs.lemmas.List.{get_or_past, get_or-set_same, get_or-set_other}
use Rattle.std.proofs.lemmas.List.Sums.{length-filter}
use Rattle.std.proofs.lemmas.Nat.{or_lt}
use Rattle.std.proofs.lemmas.Nat.Bits.{bit_at_and, bit_at_or, bit_at_not, bit_at_above, bit_at-lt}
use Rattle.ot_theory.specs.declared.Mark.{Mark}
use Rattle.ot_theory.specs.Rankings.{numbers_below}
use Rattle.ot_theory.specs.Demotion.{is_blocked}
use Rattle.demotion.specs.Placed.{levels_of, has_bit}
use Rattle.demotion.proofs.Masked.{level-bit}
use Rattle.biased_demotion.specs.Biased.{is_markedness, is_free, freed}
use Rattle.biased_demotion.specs.Shown.{Shows, freed_in}
use Rattle.biased_demotion.proofs.Shown.{min_bits, Shows-has_bit, one_more, ones_below, count_wider}
use Rattle.biased_demotion.proofs.Opened.{PlacesSame, zero_test, free-same}

-- ---- the constraints that are free, as bits
free_bit : (placed blocked : Bool) (a b : ℕ) → a ≡ cond placed 1 0 → b ≡ cond blocked 1 0 → 1 - max a b ≡ cond (not placed && not blocked) 1 0
free_bit true true a b p q = rw (p, q) refl
free_bit true false a b p q = rw (p, q) refl
free_bit false true a b p q = rw (p, q) refl
free_bit false false a b p q = rw (p, q) refl

pub free-mask : (levels : List ℕ) (set : List (List Mark)) (placed losses c : ℕ) → placed < 2 ^ 64 → losses < 2 ^ 64 → c < 64
    → bit_at placed c ≡ cond (nat_lt 0 (slice_index levels c)) 1 0 → bit_at losses c ≡ cond (is_blocked levels set c) 1 0
    → bit_at (bit_not w64 (bit_or placed losses)) c ≡ cond (is_free levels set c) 1 0
free-mask levels set placed losses c small low within p q =
    bit_at_not w64 (bit_or placed losses) c (or_lt 64 placed losses small low) within
    ∙ ap (λ (x : ℕ). 1 - x) (bit_at_or placed losses c)
    ∙ free_bit (nat_lt 0 (slice_index levels c)) (is_blocked levels set c) (bit_at placed c) (bit_at losses c) p q
    ∙ ap (λ (t : Bool). cond (t && not (is_blocked levels set c)) 1 0) (sym (zero_test (slice_index levels c)))

-- ---- how many are free once one more is placed
pub own_bit : (x : ℕ) → x < 2 → x ≡ cond (x == 1) 1 0
own_bit zero h = refl
own_bit (suc zero) h = refl
own_bit (suc (suc x)) h = absurd (omega arith)

two_bits : (a b : ℕ) (p q : Bool) → a ≡ cond p 1 0 → b ≡ cond q 1 0 → min a b ≡ cond (p && q) 1 0
two_bits a b p q h g = rw (h, g) (min_bits p q)

level_bit : (x : ℕ) → x < 2 → x ≡ cond (nat_lt 0 x) 1 0
level_bit zero h = refl
level_bit (suc zero) h = refl
level_bit (suc (suc x)) h = absurd (omega arith)

is_level : (now d : ℕ) → d < 64 → bit_at now d ≡ cond (nat_lt 0 (slice_index (levels_of now) d)) 1 0
is_level now d below = level_bit (bit_at now d) (bit_at-lt now d) ∙ ap (λ (x : ℕ). cond (nat_lt 0 x) 1 0) (sym (level-bit now d below))

free_ones : (markedness now losses : ℕ) (set : List (List Mark)) → markedness < 2 ^ 64 → now < 2 ^ 64 → losses < 2 ^ 64 → Shows losses (is_blocked (levels_of now) set)
    → count_ones (bit_and markedness (bit_not w64 (bit_or now losses))) ≡ count_by (λ d. has_bit markedness d && is_free (levels_of now) set d) (numbers_below 64)
free_ones markedness now losses set few small low q =
    let free : ℕ = bit_not w64 (bit_or now losses) in
    ones_below (bit_and markedness free) 64 (λ d. has_bit markedness d && is_free (levels_of now) set d)
    (λ d below. bit_at_and markedness free d
    ∙ two_bits (bit_at markedness d) (bit_at free d) (has_bit markedness d) (is_free (levels_of now) set d) (own_bit (bit_at markedness d) (bit_at-lt markedness d)) (free-mask (levels_of now) set now losses d small low below (is_level now d below) (q d)))
    (λ d past. omega (arith, bit_at_and markedness free d, bit_at_above markedness 64 d few past))

pub freed-ones : (markedness placed one losses c : ℕ) (set : List (List Mark)) → one ≡ 2 ^ c → markedness < 2 ^ 64 → placed < 2 ^ 64 → one < 2 ^ 64 → losses < 2 ^ 64 → Shows losses (is_blocked (levels_of (bit_or placed one)) set)
    → count_ones (bit_and markedness (bit_not w64 (bit_or (bit_or placed one) losses))) ≡ freed_in markedness placed set c
unfolding freed_in
freed-ones markedness placed one losses c set e few small alone low q =
    free_ones markedness (bit_or placed one) losses set few (or_lt 64 placed one small alone) low q
    ∙ ap (λ (x : ℕ). count_by (λ d. has_bit markedness d && is_free (levels_of (bit_or placed x)) set d) (numbers_below 64)) e

positive : (t : Bool) → nat_lt 0 (cond t 1 0) ≡ t
positive true = refl
positive false = refl

or_true : (t : Bool) → (t || true) ≡ true
or_true true = refl
or_true false = refl

or_false : (t : Bool) → (t || false) ≡ t
or_false true = refl
or_false false = refl

-- the mask with one more constraint places the same ones as the numbers with this one placed alone
placed_alone : (n : ℕ) (levels : List ℕ) (placed c : ℕ) → n ≤ 64 → length levels ≡ n → c < n → Shows placed (λ d. nat_lt 0 (slice_index levels d)) → PlacesSame n (levels_of (bit_or placed (2 ^ c))) (slice_set levels c 1)
placed_alone n levels placed c few long within h k below =
    ap (nat_lt 0) (level-bit (bit_or placed (2 ^ c)) k (omega arith) ∙ one_more placed c k (λ d. nat_lt 0 (slice_index levels d)) h) ∙ positive (nat_lt 0 (slice_index levels k) || (k == c)) ∙ by (eqb_tells k c)
  where
    by : ((k == c) ≡ true) × (k ≡ c) ⊎ ((k == c) ≡ false) × (k ≢ c) → (nat_lt 0 (slice_index levels k) || (k == c)) ≡ nat_lt 0 (slice_index (slice_set levels c 1) k)
    by (inl same) = rw same.0 (or_true (nat_lt 0 (slice_index levels k)) ∙ sym (ap (nat_lt 0) (ap (λ (x : ℕ). slice_index (slice_set levels c 1) x) same.1 ∙ get_or-set_same levels c 1 0 (omega (arith, long)))))
    by (inr other) = rw other.0 (or_false (nat_lt 0 (slice_index levels k)) ∙ sym (ap (nat_lt 0) (get_or-set_other levels c k 1 0 other.1)))

pub freed-masks : (faith : List Bool) (levels : List ℕ) (set : List (List Mark)) (markedness placed c : ℕ) → length faith ≤ 64 → length levels ≡ length faith → All (λ marks. length marks ≡ length faith) set → c < length faith
    → Shows markedness (is_markedness faith) → Shows placed (λ d. nat_lt 0 (slice_index levels d)) → freed_in markedness placed set c ≡ freed faith levels set c
unfolding freed_in
freed-masks faith levels set markedness placed c few long widths within m p =
    sym (length-filter test (numbers_below (length faith)) ∙ count_wider test wide (length faith) 64 few same past)
  where
    test : ℕ → Bool
    test d = is_markedness faith d && is_free (slice_set levels c 1) set d

    wide : ℕ → Bool
    wide d = has_bit markedness d && is_free (levels_of (bit_or placed (2 ^ c))) set d

    same : (d : ℕ) → d < length faith → wide d ≡ test d
    same d below = rw (Shows-has_bit markedness (is_markedness faith) m d, free-same (levels_of (bit_or placed (2 ^ c))) (slice_set levels c 1) (length faith) set d widths (placed_alone (length faith) levels placed c few long within p) below) refl

    past : (d : ℕ) → length faith ≤ d → wide d ≡ false
    past d over = rw (Shows-has_bit markedness (is_markedness faith) m d, get_or_past faith d true over) refl
