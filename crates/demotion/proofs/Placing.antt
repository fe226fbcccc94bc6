-- The constraints of some bits get a number, the lowest bit first.
use Rattle.std.proofs.Common.{◌≡◌, ◌≢◌, ℕ, ◌+◌, ◌-◌, ◌*◌, ◌%◌, ◌^◌, ◌<◌, ◌≤◌, ◌==◌, not, ◌&&◌, List, Bool, true, false, arith, refl, sym, ap, ◌∙◌, cond, inl, inr, length, set, get_or, slice_index}
use Rattle.std.specs.Prelude.{bit_and, bit_or, nat_lt, Contains}
use Rattle.std.specs.Int.{bit_at, bit_not, w64, trailing_zeros}
use Rattle.std.specs.Int.Count.{trailing_of_zero}
use Rattle.std.proofs.Math.Nat.{mod-eq_of_lt}
use Rattle.std.proofs.Math.Pow.{pow-lt}
use Rattle.std.proofs.lemmas.Bool.{cases_lt, eq-eqb, ne_eqb, lt-ltb}
use Rattle.std.proofs.lemmas.Bool.Decides.{eqb_tells, nat_tests}
use Rattle.std.proofs.lemmas.List.{get_or-set_same, get_or-set_other, length-set}
use Rattle.std.proofs.lemmas.Nat.{and_le_l}
use Rattle.std.proofs.lemmas.Nat.Bits.{bit_at-lt, bit_at_and, bit_at_or, bit_at_not, bit_at-zero, bit_at-pow_same, bit_at-pow_other, bit_at-trailing_zeros, bit_at_above}
use Rattle.std.proofs.lemmas.List.Sums.{sum_by-set}
use Rattle.ot_theory.specs.Rankings.{count_of}
use Rattle.ot_theory.specs.Demotion.{level_after}
use Rattle.demotion.specs.Placed.{has_bit}

-- Those of the bits that are not left have the number, and the others are as they were.
pub record AreGiven (bits left given : ℕ) (old new : List ℕ) : Type 0 where
  pub same : length new ≡ length old
  pub part : (c : ℕ) → bit_at left c ≤ bit_at bits c
  pub each : (c : ℕ) → slice_index new c ≡ cond (has_bit bits c && not (has_bit left c)) given (slice_index old c)
  pub counted : count_of 0 new ≤ count_of 0 old
  pub fewer : left ≢ bits → count_of 0 new < count_of 0 old

gone : (b : Bool) → (b && not b) ≡ false
gone true = refl
gone false = refl

pub AreGiven-start : (bits given : ℕ) (old : List ℕ) → AreGiven bits bits given old old
AreGiven-start bits given old = record {
  same = refl;
  part = λ c. omega arith;
  each = λ c. sym (ap (λ (b : Bool). cond b given (slice_index old c)) (gone (has_bit bits c)));
  counted = omega arith;
  fewer = λ other. absurd (other refl);
}

abbrev if_none : ℕ → ℕ
if_none level = cond (level == 0) 1 0

-- one bit of a mask
pub bit_of : (c : ℕ) → c < 64 → 1 * 2 ^ c % 18446744073709551616 ≡ 2 ^ c
bit_of c within =
    let small : 2 ^ c < 2 ^ 64 = pow-lt within in
    let fits : 1 * 2 ^ c < 18446744073709551616 = omega arith in
    mod-eq_of_lt fits ∙ omega arith

-- the lowest bit that is left
pub lowest : (left c : ℕ) → left < 2 ^ 64 → c ≡ trailing_zeros w64 left → c < 64 → bit_at left c ≡ 1
lowest left c small e within = elim (eqb_tells left 0) [
  | inl none ↦ absurd (omega (arith, e, ap (trailing_zeros w64) none.1, trailing_of_zero 64))
  | inr some ↦ rw e (bit_at-trailing_zeros w64 left (omega (arith, some.1)) small).1
]

pub AreGiven-more : (bits left given c : ℕ) (old new : List ℕ) → left < 2 ^ 64 → c ≡ trailing_zeros w64 left → c < length new → length new ≤ 64 → 0 < given → ((d : ℕ) → d < length old → has_bit bits d ≡ true → slice_index old d ≡ 0) → AreGiven bits left given old new
    → AreGiven bits (bit_and left (bit_not w64 (2 ^ c))) given old (set new c given)
AreGiven-more bits left given c old new small e below few some free h = record {
  same = length-set new c given ∙ h.same;
  part = λ d. omega (arith, bit_at_and left (bit_not w64 (2 ^ c)) d, h.part d);
  each = λ d. elim (eqb_tells d c) [
    | inl here ↦ rw here.1 (get_or-set_same new c given 0 below ∙ rw (has_it, lacks_it) refl)
    | inr other ↦ get_or-set_other new c d given 0 other.1 ∙ h.each d ∙ ap (λ (b : Bool). cond (has_bit bits d && not b) given (slice_index old d)) (sym (kept d other.1))
  ];
  counted = omega (arith, one_less, h.counted);
  fewer = λ other. omega (arith, one_less, h.counted);
}
  where
    here_left : bit_at left c ≡ 1
    here_left = lowest left c small e (omega arith)

    has_it : has_bit bits c ≡ true
    has_it = eq-eqb (bit_at bits c) 1 (omega (arith, h.part c, here_left, bit_at-lt bits c))

    was_none : slice_index new c ≡ 0
    was_none = h.each c ∙ rw (has_it, eq-eqb (bit_at left c) 1 here_left) (free c (omega (arith, h.same)) has_it)

    one_less : count_of 0 (set new c given) + 1 ≡ count_of 0 new
    one_less =
        let before : if_none (get_or new c 0) ≡ 1 = rw was_none refl in
        let after : if_none given ≡ 0 = grind (arith, nat_tests) in
        omega (arith, sum_by-set if_none new c given 0 below, before, after)

    fits : 2 ^ c < 2 ^ 64
    fits =
        let within : c < 64 = omega arith in
        pow-lt within

    lacks_it : has_bit (bit_and left (bit_not w64 (2 ^ c))) c ≡ false
    lacks_it = ne_eqb _ 1 (λ one. absurd (omega (arith, one, bit_at_and left (bit_not w64 (2 ^ c)) c, bit_at_not w64 (2 ^ c) c fits (omega arith), bit_at-pow_same c)))

    kept : (d : ℕ) → d ≢ c → has_bit (bit_and left (bit_not w64 (2 ^ c))) d ≡ has_bit left d
    kept d other = ap (λ (x : ℕ). x == 1) (elim (cases_lt d 64) [
      | inl within ↦ omega (arith, bit_at_and left (bit_not w64 (2 ^ c)) d, bit_at_not w64 (2 ^ c) d fits within, bit_at-pow_other c d other, bit_at-lt left d)
      | inr past ↦ omega (arith, bit_at_and left (bit_not w64 (2 ^ c)) d, bit_at_above left 64 d small past)
    ])

pub left-less : (left c : ℕ) → left < 2 ^ 64 → c ≡ trailing_zeros w64 left → c < 64 → bit_and left (bit_not w64 (2 ^ c)) < left
left-less left c small e within =
    let other : bit_and left (bit_not w64 (2 ^ c)) ≢ left = λ same.
    absurd (omega (arith, ap (λ (x : ℕ). bit_at x c) same, lowest left c small e within, bit_at_and left (bit_not w64 (2 ^ c)) c, bit_at_not w64 (2 ^ c) c (pow-lt within) within, bit_at-pow_same c)) in
    omega (arith, other, and_le_l left (bit_not w64 (2 ^ c)))

-- where no constraint has a bit left, all have the number
pub AreGiven-end : (bits left given c : ℕ) (old new : List ℕ) → left < 2 ^ 64 → c ≡ trailing_zeros w64 left → length new ≤ c → AreGiven bits left given old new → (d : ℕ) → d < length new → slice_index new d ≡ cond (has_bit bits d) given (slice_index old d)
AreGiven-end bits left given c old new small e past h d below = h.each d ∙ rw (ne_eqb (bit_at left d) 1 (λ one. absurd (omega (arith, one, none)))) (ap (λ (b : Bool). cond b given (slice_index old d)) (whole (has_bit bits d)))
  where
    whole : (b : Bool) → (b && true) ≡ b
    whole true = refl
    whole false = refl

    none : bit_at left d ≡ 0
    none = elim (eqb_tells left 0) [
      | inl zero_left ↦ ap (λ (x : ℕ). bit_at x d) zero_left.1 ∙ bit_at-zero d
      | inr some ↦ (bit_at-trailing_zeros w64 left (omega (arith, some.1)) small).2 d (omega arith)
    ]

-- What is neither placed nor blocked gets the number of a round.
pub level-given : (placed blocked given level c : ℕ) → placed < 2 ^ 64 → blocked < 2 ^ 64 → bit_or placed blocked < 2 ^ 64 → c < 64 → bit_at placed c ≡ cond (nat_lt 0 level) 1 0
    → cond (has_bit (bit_not w64 (bit_or placed blocked)) c) given level ≡ level_after level (has_bit blocked c) given
level-given placed blocked given level c small low both within m = elim (cases_lt 0 level) [
  | inl some ↦
      let set_bit : bit_at placed c ≡ 1 = m ∙ ap (λ (b : Bool). cond b 1 0) (lt-ltb 0 level some) in
      let shut : has_bit (bit_not w64 (bit_or placed blocked)) c ≡ false = ne_eqb _ 1 (λ one. absurd (omega (arith, one, set_bit, bit_at_or placed blocked c, bit_at_not w64 (bit_or placed blocked) c both within))) in
      rw (shut, ne_eqb level 0 (λ e. absurd (omega arith))) refl
  | inr none ↦
      let zero_level : level ≡ 0 = omega arith in
      let clear : bit_at placed c ≡ 0 = m ∙ ap (λ (x : ℕ). cond (nat_lt 0 x) 1 0) zero_level in
      elim (eqb_tells (bit_at blocked c) 1) [
        | inl shut ↦
            let no : has_bit (bit_not w64 (bit_or placed blocked)) c ≡ false = ne_eqb _ 1 (λ one. absurd (omega (arith, one, shut.1, bit_at_or placed blocked c, bit_at_not w64 (bit_or placed blocked) c both within))) in
            rw (no, shut.0, zero_level) refl
        | inr free ↦
            let yes : has_bit (bit_not w64 (bit_or placed blocked)) c ≡ true = eq-eqb _ 1 (omega (arith, free.1, clear, bit_at-lt blocked c, bit_at_or placed blocked c, bit_at_not w64 (bit_or placed blocked) c both within)) in
            rw (yes, free.0, zero_level) refl
      ]
]

-- a free one is not placed
pub free-unplaced : (placed blocked level c : ℕ) → bit_or placed blocked < 2 ^ 64 → c < 64 → bit_at placed c ≡ cond (nat_lt 0 level) 1 0 → has_bit (bit_not w64 (bit_or placed blocked)) c ≡ true → level ≡ 0
free-unplaced placed blocked level c both within m free = elim (cases_lt 0 level) [
  | inl some ↦
      let set_bit : bit_at placed c ≡ 1 = m ∙ ap (λ (b : Bool). cond b 1 0) (lt-ltb 0 level some) in
      let shut : has_bit (bit_not w64 (bit_or placed blocked)) c ≡ false = ne_eqb _ 1 (λ one. absurd (omega (arith, one, set_bit, bit_at_or placed blocked c, bit_at_not w64 (bit_or placed blocked) c both within))) in
      let no : true ≡ false = sym free ∙ shut in
      absurd (cc)
  | inr none ↦ omega arith
]

-- where none below the width is free, a round leaves each number as it is
pub level-idle : (placed blocked given level c n : ℕ) → placed < 2 ^ 64 → blocked < 2 ^ 64 → bit_or placed blocked < 2 ^ 64 → n ≤ trailing_zeros w64 (bit_not w64 (bit_or placed blocked)) → c < n → n ≤ 64 → bit_at placed c ≡ cond (nat_lt 0 level) 1 0
    → level ≡ level_after level (has_bit blocked c) given
level-idle placed blocked given level c n small low both none below few m =
    ap (λ (b : Bool). cond b given level) (sym shut) ∙ level-given placed blocked given level c small low both (omega arith) m
  where
    free : ℕ
    free = bit_not w64 (bit_or placed blocked)

    clear : bit_at free c ≡ 0
    clear = elim (eqb_tells free 0) [
      | inl all ↦ ap (λ (x : ℕ). bit_at x c) all.1 ∙ bit_at-zero c
      | inr some ↦ (bit_at-trailing_zeros w64 free (omega (arith, some.1)) (omega arith)).2 c (omega arith)
    ]

    shut : has_bit free c ≡ false
    shut = ne_eqb (bit_at free c) 1 (λ one. absurd (omega (arith, one, clear)))

-- where a constraint had a bit, fewer are not placed
pub AreGiven-fewer : (bits left given : ℕ) (old new : List ℕ) → length new ≤ trailing_zeros w64 left → trailing_zeros w64 bits < length old → AreGiven bits left given old new → count_of 0 new < count_of 0 old
AreGiven-fewer bits left given old new past some h = h.fewer (λ same. absurd (omega (arith, h.same, ap (trailing_zeros w64) same)))

-- where all bits are set, no constraint is left
pub unplaced-none : (placed : ℕ) (levels : List ℕ) → placed ≡ 18446744073709551615 → length levels ≤ 64 → ((c : ℕ) → c < length levels → bit_at placed c ≡ cond (nat_lt 0 (slice_index levels c)) 1 0) → Contains levels 0 → ⊥
unplaced-none placed levels all few m h =
    let within : h.0 < 64 = omega (arith, h.1) in
    let set_bit : bit_at placed h.0 ≡ 1 = ap (λ (x : ℕ). bit_at x h.0) all ∙ bit_at_not w64 0 h.0 (omega arith) within ∙ ap (λ (x : ℕ). 1 - x) (bit_at-zero h.0) in
    absurd (omega (arith, set_bit, m h.0 h.1 ∙ ap (λ (x : ℕ). cond (nat_lt 0 x) 1 0) h.2))
