-- Conditions as two masks: bit c of the one says that constraint c has W, bit c of the other that it has L.
use Rattle.std.specs.Prelude.{◌≡◌, ℕ, ◌^◌, ◌<◌, ◌≤◌, ◌==◌, ◌⊎◌, ◌≢◌, Bool, true, false, List, length, map, min, bit_and, if◌then◌else◌}
use Rattle.std.specs.Int.{bit_at}
use Rattle.std.specs.Simd.Lanes.{mask_l}
use Rattle.ot_theory.specs.declared.Mark.{Mark}
use Rattle.ot_theory.specs.declared.Mark.TheVariants.{W, L, E}
use Rattle.ot_theory.specs.Rankings.{numbers_below}
use Rattle.ot_theory.specs.Conditions.{is_win, is_loss, mark_at}
use Rattle.std.proofs.Common.{arith, refl, sym, ap, ◌∙◌, inl, inr, cond, get_or}
use Rattle.std.proofs.lemmas.Bool.{cases_lt}
use Rattle.std.proofs.lemmas.Bool.Decides.{eqb_tells}
use Rattle.std.proofs.lemmas.List.{get_or_past, get_or-map, length-map}
use Rattle.std.proofs.lemmas.List.FromFn.{length-map-range_with_len, get_or-map-range_with_len}
use Rattle.std.proofs.lemmas.Nat.Bits.{bit_at-lt, bit_at_and, bit_at-zero, bit_at_above, same_from_bits}
use Rattle.std.proofs.lemmas.Simd.{bit_mask_l}

-- the mark that two masks give a constraint
abbrev pub mark_in : ℕ → ℕ → ℕ → Mark
mark_in wins losses c = if bit_at wins c == 1 then W else if bit_at losses c == 1 then L else E

-- the marks that two masks give the constraints below the width
abbrev pub marks_of : ℕ → ℕ → ℕ → List Mark
marks_of width wins losses = map (mark_in wins losses) (numbers_below width)

-- Bit c of the mask is set exactly where the mark of c passes the test, which E does not: so none is set at the width or past it.
abbrev pub IsMask : (Mark → Bool) → List Mark → ℕ → Type 0
IsMask test marks mask = (c : ℕ) → bit_at mask c ≡ (if test (mark_at marks c) then 1 else 0)

-- the mask of the marks that pass the test
abbrev pub mask_of : (Mark → Bool) → List Mark → ℕ
mask_of test marks = mask_l (map test marks)

-- masks of so many constraints, at most the limit, that share no bit and have none at the width or past it
pub record AreMasks (limit width wins losses : ℕ) : Type 0 where
  pub fits : width ≤ limit
  pub wins_below : wins < 2 ^ width
  pub losses_below : losses < 2 ^ width
  pub apart : bit_and wins losses ≡ 0

-- ---- the marks give the masks back
pub length-marks_of : (n w l : ℕ) → length (marks_of n w l) ≡ n
length-marks_of n w l = length-map-range_with_len (mark_in w l) 0 n

pub mark_at-marks_of : (n w l c : ℕ) → c < n → mark_at (marks_of n w l) c ≡ mark_in w l c
mark_at-marks_of n w l c below = get_or-map-range_with_len (mark_in w l) 0 n c c E below (omega arith)

pub mark_at-past : (n w l c : ℕ) → n ≤ c → mark_at (marks_of n w l) c ≡ E
mark_at-past n w l c past = get_or_past (marks_of n w l) c E (omega (arith, length-marks_of n w l))

no_win : (t : Bool) → is_win (cond t L E) ≡ false
no_win true = refl
no_win false = refl

-- the bits a and b of a constraint in the two masks
win_bit : (a b : ℕ) → a < 2 → a ≡ (if is_win (if a == 1 then W else if b == 1 then L else E) then 1 else 0)
win_bit a b small = elim (eqb_tells a 1) [
  | inl same ↦ rw same.1 refl
  | inr other ↦ let none : a ≡ 0 = omega (arith, other.1) in rw (none, no_win (b == 1)) refl
]

loss_bit : (a b : ℕ) → b < 2 → min a b ≡ 0 → b ≡ (if is_loss (if a == 1 then W else if b == 1 then L else E) then 1 else 0)
loss_bit a b small apart = elim (eqb_tells a 1) [
  | inl same ↦ let none : b ≡ 0 = omega (arith, same.1) in rw (same.1, none) refl
  | inr other ↦ rw other.0 (by (eqb_tells b 1))
]
  where
    by : ((b == 1) ≡ true) × (b ≡ 1) ⊎ ((b == 1) ≡ false) × (b ≢ 1) → b ≡ cond (is_loss (cond (b == 1) L E)) 1 0
    by (inl same) = rw same.1 refl
    by (inr other) = let none : b ≡ 0 = omega (arith, other.1) in rw none refl

pub IsMask-wins : (limit n w l : ℕ) → AreMasks limit n w l → IsMask is_win (marks_of n w l) w
IsMask-wins limit n w l h c = elim (cases_lt c n) [
  | inl below ↦ rw (mark_at-marks_of n w l c below) (win_bit (bit_at w c) (bit_at l c) (bit_at-lt w c))
  | inr past ↦ rw (mark_at-past n w l c past) (bit_at_above w n c h.wins_below past)
]

pub IsMask-losses : (limit n w l : ℕ) → AreMasks limit n w l → IsMask is_loss (marks_of n w l) l
IsMask-losses limit n w l h c = elim (cases_lt c n) [
  | inl below ↦
      let apart : min (bit_at w c) (bit_at l c) ≡ 0 = sym (bit_at_and w l c) ∙ ap (λ (x : ℕ). bit_at x c) h.apart ∙ bit_at-zero c in
      rw (mark_at-marks_of n w l c below) (loss_bit (bit_at w c) (bit_at l c) (bit_at-lt l c) apart)
  | inr past ↦ rw (mark_at-past n w l c past) (bit_at_above l n c h.losses_below past)
]

-- there is one mask of a test
pub same_mask : (test : Mark → Bool) (marks : List Mark) (a b : ℕ) → IsMask test marks a → IsMask test marks b → a ≡ b
same_mask test marks a b p q = same_from_bits a b (λ c. p c ∙ sym (q c))

pub IsMask-mask_of : (test : Mark → Bool) (marks : List Mark) → test E ≡ false → IsMask test marks (mask_of test marks)
IsMask-mask_of test marks even c = bit_mask_l (map test marks) c ∙ ap (λ (t : Bool). cond t 1 0) tested
  where
    tested : get_or (map test marks) c false ≡ test (mark_at marks c)
    tested = elim (cases_lt c (length marks)) [
      | inl below ↦ get_or-map test marks c E false below
      | inr past ↦ get_or_past (map test marks) c false (omega (arith, length-map marks test)) ∙ sym (ap test (get_or_past marks c E past) ∙ even)
    ]

pub mask_of-wins : (limit n w l : ℕ) → AreMasks limit n w l → mask_of is_win (marks_of n w l) ≡ w
mask_of-wins limit n w l h = same_mask is_win (marks_of n w l) (mask_of is_win (marks_of n w l)) w (IsMask-mask_of is_win (marks_of n w l) refl) (IsMask-wins limit n w l h)

pub mask_of-losses : (limit n w l : ℕ) → AreMasks limit n w l → mask_of is_loss (marks_of n w l) ≡ l
mask_of-losses limit n w l h = same_mask is_loss (marks_of n w l) (mask_of is_loss (marks_of n w l)) l (IsMask-mask_of is_loss (marks_of n w l) refl) (IsMask-losses limit n w l h)
