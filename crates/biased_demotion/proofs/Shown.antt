-- Sets of constraints as bits of a mask.
use Rattle.std.proofs.Common.{◌≡◌, ◌≢◌, ℕ, zero, suc, ◌+◌, ◌^◌, ◌<◌, ◌≤◌, min, max, List, [], Bool, true, false, ◌&&◌, ◌||◌, ◌==◌, cond, length, map, arith, refl, sym, ap, ◌∙◌, inl, inr, below_more}
use Rattle.std.specs.Prelude.{bit_and, bit_or, count_ones, filter, count_by}
use Rattle.std.specs.List.{range_with_len}
use Rattle.std.specs.Simd.Lanes.{mask_l}
use Rattle.std.specs.Int.{bit_at, w64, trailing_zeros}
use Rattle.std.proofs.lemmas.Bool.{cases_lt}
use Rattle.std.proofs.lemmas.Bool.Decides.{eqb_tells}
use Rattle.std.proofs.lemmas.List.{get_or_past}
use Rattle.std.proofs.lemmas.List.FromFn.{length-map-range_with_len, get_or-map-range_with_len}
use Rattle.std.proofs.lemmas.Nat.Bits.{bit_at-lt, bit_at_and, bit_at_or, bit_at-zero, bit_at-pow_same, bit_at-pow_other, bit_at-trailing_zeros, same_from_bits}
use Rattle.std.proofs.lemmas.Simd.{bit_mask_l, ones-mask_l}
use Rattle.ot_theory.specs.Rankings.{numbers_below}
use Rattle.ot_theory.proofs.LeftOpen.{in_range}
use Rattle.ot_theory.proofs.Members.{filter_below}
use Rattle.demotion.specs.Placed.{has_bit}
use Rattle.demotion.proofs.Masked.{flagged}
use Rattle.biased_demotion.specs.Shown.{Shows}

-- ---- bits of tests
pub min_bits : (a b : Bool) → min (cond a 1 0) (cond b 1 0) ≡ cond (a && b) 1 0
min_bits true true = refl
min_bits true false = refl
min_bits false true = refl
min_bits false false = refl

pub max_bits : (a b : Bool) → max (cond a 1 0) (cond b 1 0) ≡ cond (a || b) 1 0
max_bits true true = refl
max_bits true false = refl
max_bits false true = refl
max_bits false false = refl

pub passes_bit : (t : Bool) → ◌≡◌ {A = ℕ} 1 (cond t 1 0) → t ≡ true
passes_bit true e = refl
passes_bit false e = absurd (omega arith)

pub fails_bit : (t : Bool) → ◌≡◌ {A = ℕ} 0 (cond t 1 0) → t ≡ false
fails_bit true e = absurd (omega arith)
fails_bit false e = refl

pub Shows-has_bit : (mask : ℕ) (test : ℕ → Bool) → Shows mask test → (c : ℕ) → has_bit mask c ≡ test c
Shows-has_bit mask test h c = flagged mask c (test c) (h c)

pub Shows-and : (a b : ℕ) (p q : ℕ → Bool) → Shows a p → Shows b q → Shows (bit_and a b) (λ c. p c && q c)
Shows-and a b p q h g c = bit_at_and a b c ∙ rw (h c, g c) (min_bits (p c) (q c))

-- ---- masks of nothing, of something, and of one
pub Shows-none : (mask : ℕ) (test : ℕ → Bool) → Shows mask test → mask ≡ 0 → (c : ℕ) → test c ≡ false
Shows-none mask test h none c = fails_bit (test c) (sym (bit_at-zero c) ∙ ap (λ (x : ℕ). bit_at x c) (sym none) ∙ h c)

-- a constraint that passes
pub record Passing (test : ℕ → Bool) : Type 0 where
  pub it : ℕ
  pub below : it < 64
  pub passes : test it ≡ true

pub Shows-some : (mask : ℕ) (test : ℕ → Bool) → mask < 2 ^ 64 → Shows mask test → mask ≢ 0 → Passing test
Shows-some mask test small h some =
    let b : (trailing_zeros w64 mask < 64) × (bit_at mask (trailing_zeros w64 mask) ≡ 1) × ((i : ℕ) → i < trailing_zeros w64 mask → bit_at mask i ≡ 0) = bit_at-trailing_zeros w64 mask (omega (arith, some)) (omega (arith, small)) in
    record { it = trailing_zeros w64 mask; below = b.0; passes = passes_bit (test (trailing_zeros w64 mask)) (sym b.1 ∙ h (trailing_zeros w64 mask)) }

-- one more constraint in the mask
pub one_more : (mask k c : ℕ) (test : ℕ → Bool) → Shows mask test → bit_at (bit_or mask (2 ^ k)) c ≡ cond (test c || (c == k)) 1 0
one_more mask k c test h = bit_at_or mask (2 ^ k) c ∙ rw (h c, power) (max_bits (test c) (c == k))
  where
    power : bit_at (2 ^ k) c ≡ cond (c == k) 1 0
    power = elim (eqb_tells c k) [
      | inl same ↦ rw (same.0, same.1) (bit_at-pow_same k)
      | inr other ↦ rw other.0 (bit_at-pow_other k c other.1)
    ]

-- ---- the constraints of a mask as a list
pub filter_none : (p : ℕ → Bool) (a n : ℕ) → ((c : ℕ) → a ≤ c → c < a + n → p c ≡ false) → filter p (range_with_len a n) ≡ []
filter_none p a zero h = refl
filter_none p a (suc n) h = rw (h a (omega arith) (omega arith)) (filter_none p (a + 1) n (λ c l u. h c (omega arith) (omega arith)))

pub none_left : (p : ℕ → Bool) (n : ℕ) → ((c : ℕ) → c < n → p c ≡ false) → filter p (numbers_below n) ≡ []
none_left p n h = filter_none p 0 n (λ c l u. h c (omega arith))

pub some_left : (p : ℕ → Bool) (n c : ℕ) → c < n → p c ≡ true → filter p (numbers_below n) ≢ []
some_left p n c below passes none =
    let h = in_range p 0 n c (record { from = omega arith; below = omega arith; passes = passes }) in
    absurd (omega (arith, h.1, ap (λ (l : List ℕ). length l) none))

pub listed : (mask n : ℕ) (test : ℕ → Bool) → Shows mask test → filter (has_bit mask) (numbers_below n) ≡ filter test (numbers_below n)
listed mask n test h = filter_below (has_bit mask) test 0 n (λ c below. Shows-has_bit mask test h c)

-- ---- how many bits are set
pub ones_below : (mask n : ℕ) (test : ℕ → Bool) → ((c : ℕ) → c < n → bit_at mask c ≡ cond (test c) 1 0) → ((c : ℕ) → n ≤ c → bit_at mask c ≡ 0) → count_ones mask ≡ count_by test (numbers_below n)
ones_below mask n test h past = ap count_ones (same_from_bits mask (mask_l (map test (numbers_below n))) each) ∙ ones-mask_l test (numbers_below n)
  where
    each : (c : ℕ) → bit_at mask c ≡ bit_at (mask_l (map test (numbers_below n))) c
    each c = elim (cases_lt c n) [
      | inl below ↦ h c below ∙ ap (λ (t : Bool). cond t 1 0) (sym (get_or-map-range_with_len test 0 n c c false below (omega arith))) ∙ sym (bit_mask_l (map test (numbers_below n)) c)
      | inr over ↦ past c over ∙ ap (λ (t : Bool). cond t 1 0) (sym (get_or_past (map test (numbers_below n)) c false (omega (arith, length-map-range_with_len test 0 n, over)))) ∙ sym (bit_mask_l (map test (numbers_below n)) c)
    ]

-- Tests that agree below n, of which the other fails from n on, count the same.
pub count_wider : (p q : ℕ → Bool) (n m : ℕ) → n ≤ m → ((c : ℕ) → c < n → q c ≡ p c) → ((c : ℕ) → n ≤ c → q c ≡ false) → count_by p (numbers_below n) ≡ count_by q (numbers_below m)
count_wider p q n m few same past = sym (ones-mask_l p (numbers_below n)) ∙ ones_below (mask_l (map p (numbers_below n))) m q each over
  where
    each : (c : ℕ) → c < m → bit_at (mask_l (map p (numbers_below n))) c ≡ cond (q c) 1 0
    each c below = elim (cases_lt c n) [
      | inl within ↦ bit_mask_l (map p (numbers_below n)) c ∙ ap (λ (t : Bool). cond t 1 0) (get_or-map-range_with_len p 0 n c c false within (omega arith) ∙ sym (same c within))
      | inr out ↦ bit_mask_l (map p (numbers_below n)) c ∙ ap (λ (t : Bool). cond t 1 0) (get_or_past (map p (numbers_below n)) c false (omega (arith, length-map-range_with_len p 0 n, out)) ∙ sym (past c out))
    ]

    over : (c : ℕ) → m ≤ c → bit_at (mask_l (map p (numbers_below n))) c ≡ 0
    over c out = bit_mask_l (map p (numbers_below n)) c ∙ ap (λ (t : Bool). cond t 1 0) (get_or_past (map p (numbers_below n)) c false (omega (arith, length-map-range_with_len p 0 n, out)))

-- ---- a mask that is built constraint by constraint: of those below k it has the ones that pass, and no other
pub record IsShownBelow (mask : ℕ) (test : ℕ → Bool) (k : ℕ) : Type 0 where
  pub done : (c : ℕ) → c < k → bit_at mask c ≡ cond (test c) 1 0
  pub past : (c : ℕ) → k ≤ c → bit_at mask c ≡ 0

pub IsShownBelow-none : (test : ℕ → Bool) → IsShownBelow 0 test 0
IsShownBelow-none test = record { done = λ c below. absurd (omega arith); past = λ c l. bit_at-zero c }

pub IsShownBelow-in : (mask : ℕ) (test : ℕ → Bool) (k : ℕ) → test k ≡ true → IsShownBelow mask test k → IsShownBelow (bit_or mask (2 ^ k)) test (k + 1)
IsShownBelow-in mask test k passes h = record {
  done = below_more _ _
      (λ c below. let other : c ≢ k = omega arith in bit_at_or mask (2 ^ k) c ∙ rw (bit_at-pow_other k c other) (omega (arith, h.done c below, bit_at-lt mask c)))
      (bit_at_or mask (2 ^ k) k ∙ rw (bit_at-pow_same k, h.past k (omega arith), passes) refl);
  past = λ c l. let other : c ≢ k = omega arith in bit_at_or mask (2 ^ k) c ∙ rw (bit_at-pow_other k c other, h.past c (omega arith)) refl;
}

pub IsShownBelow-out : (mask : ℕ) (test : ℕ → Bool) (k : ℕ) → test k ≡ false → IsShownBelow mask test k → IsShownBelow mask test (k + 1)
IsShownBelow-out mask test k fails h = record {
  done = below_more _ _ h.done (h.past k (omega arith) ∙ rw fails refl);
  past = λ c l. h.past c (omega arith);
}

pub IsShownBelow-whole : (mask : ℕ) (test : ℕ → Bool) (k : ℕ) → ((c : ℕ) → k ≤ c → test c ≡ false) → IsShownBelow mask test k → Shows mask test
IsShownBelow-whole mask test k none h c = elim (cases_lt c k) [
  | inl below ↦ h.done c below
  | inr past ↦ h.past c past ∙ rw (none c past) refl
]
