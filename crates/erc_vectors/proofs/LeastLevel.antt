-- The least stratum number of the constraints of a mask, the lowest bit first, and what it tells of a condition.
use Rattle.std.proofs.Common.{◌≡◌, ◌≢◌, ◌⊎◌, ℕ, zero, suc, ◌-◌, ◌/◌, ◌%◌, ◌^◌, ◌<◌, ◌≤◌, min, List, Bool, true, false, cond, length, slice_index, arith, sym, ap, ◌∙◌, inl, inr}
use Rattle.std.specs.Prelude.{bit_and}
use Rattle.std.specs.Int.{bit_at, trailing_zeros, w64}
use Rattle.std.proofs.lemmas.Bool.{cases_lt, cases_eq, false_from_ne_true}
use Rattle.std.proofs.lemmas.Nat.Bits.{bit_at-lt, bit_at-zero, bit_at-suc, bit_at_lowest, bit_at_and, bit_at_above, bit_at-trailing_zeros}
use Rattle.ot_theory.specs.declared.Mark.{Mark}
use Rattle.ot_theory.specs.declared.Mark.TheVariants.{W, E}
use Rattle.ot_theory.specs.Conditions.{is_win, is_loss, mark_at}
use Rattle.ot_theory.specs.Hierarchies.{satisfies}
use Rattle.ot_theory.proofs.Strata.{WinAbove-satisfied, satisfied-WinAbove, is_win-true, is_loss-true, mark_at-within}
use Rattle.erc_vectors.specs.Masks.{IsMask}
use Rattle.erc_vectors.specs.Levels.{IsLevelOf}
use Rattle.erc_vectors.proofs.Bits.{bit_true}

-- ---- the number before a mask has the same bits above the lowest
less_one-above : (n k d : ℕ) → 0 < n → bit_at n k ≡ 1 → ((i : ℕ) → i < k → bit_at n i ≡ 0) → k < d → bit_at (n - 1) d ≡ bit_at n d
less_one-above n k zero some one none above = absurd (omega arith)
less_one-above n zero (suc d) some one none above =
    let odd : n % 2 ≡ 1 = omega (arith, bit_at_lowest n) in
    let half : (n - 1) / 2 ≡ n / 2 = omega arith in
    bit_at-suc (n - 1) d ∙ ap (λ (x : ℕ). bit_at x d) half ∙ sym (bit_at-suc n d)
less_one-above n (suc k) (suc d) some one none above =
    let even : n % 2 ≡ 0 = omega (arith, bit_at_lowest n, none 0 (omega arith)) in
    let half : (n - 1) / 2 ≡ n / 2 - 1 = omega arith in
    bit_at-suc (n - 1) d ∙ ap (λ (x : ℕ). bit_at x d) half
    ∙ less_one-above (n / 2) k d (omega arith) (sym (bit_at-suc n k) ∙ one) (λ i below. sym (bit_at-suc n i) ∙ none (suc i) (omega arith)) (omega arith) ∙ sym (bit_at-suc n d)

-- the lowest bit of a mask, and that a mask and the number before it share the others
pub record IsLowest (mask c : ℕ) : Type 0 where
  pub inside : bit_at mask c ≡ 1
  pub kept : (d : ℕ) → d ≢ c → bit_at (bit_and mask (mask - 1)) d ≡ bit_at mask d

pub IsLowest-trailing_zeros : (mask : ℕ) → mask ≢ 0 → mask < 2 ^ 64 → IsLowest mask (trailing_zeros w64 mask)
IsLowest-trailing_zeros mask other small = record {
  inside = t.1;
  kept = λ d apart. elim (cases_lt d c) [
    | inl below ↦ omega (arith, bit_at_and mask (mask - 1) d, t.2 d below)
    | inr above ↦ omega (arith, bit_at_and mask (mask - 1) d, less_one-above mask c d some t.1 t.2 (omega arith))
  ];
}
  where
    c : ℕ
    c = trailing_zeros w64 mask

    some : 0 < mask
    some = omega arith

    t : (trailing_zeros w64 mask < 64) × (bit_at mask (trailing_zeros w64 mask) ≡ 1) × ((i : ℕ) → i < trailing_zeros w64 mask → bit_at mask i ≡ 0)
    t = bit_at-trailing_zeros w64 mask some small

-- a bit of a mask with none from n on stands below n
pub bit_below : (mask n c : ℕ) → mask < 2 ^ n → bit_at mask c ≡ 1 → c < n
bit_below mask n c small one = elim (cases_lt c n) [
  | inl below ↦ below
  | inr past ↦ absurd (omega (arith, bit_at_above mask n c small past))
]

-- ---- a walk over the constraints of a mask
-- None of those that are not left has a smaller number than this, and one has it, unless all are left.
pub record AreRead (levels : List ℕ) (mask left least : ℕ) : Type 0 where
  pub part : (c : ℕ) → bit_at left c ≤ bit_at mask c
  pub each : (c : ℕ) → bit_at mask c ≡ 1 → bit_at left c ≡ 0 → least ≤ slice_index levels c
  pub taken : ((left ≡ mask) × (least ≡ 255)) ⊎ IsLevelOf levels mask least

pub AreRead-more : (levels : List ℕ) (mask left least c : ℕ) → IsLowest left c → slice_index levels c ≤ 255 → AreRead levels mask left least → AreRead levels mask (bit_and left (left - 1)) (min least (slice_index levels c))
AreRead-more levels mask left least c low small h = record {
  part = λ d. omega (arith, bit_at_and left (left - 1) d, h.part d);
  each = λ d one none. elim (cases_eq d c) [
    | inl same ↦ omega (arith, ap (slice_index levels) same)
    | inr other ↦ omega (arith, h.each d one (sym (low.kept d other) ∙ none))
  ];
  taken = inr (elim (cases_lt (slice_index levels c) least) [
    | inl less ↦ here (omega arith)
    | inr more ↦ by more h.taken
  ]);
}
  where
    here : slice_index levels c ≡ min least (slice_index levels c) → IsLevelOf levels mask (min least (slice_index levels c))
    here e = record { at = c; inside = omega (arith, low.inside, h.part c, bit_at-lt mask c); has = e }

    by : least ≤ slice_index levels c → ((left ≡ mask) × (least ≡ 255)) ⊎ IsLevelOf levels mask least → IsLevelOf levels mask (min least (slice_index levels c))
    by more (inl none) = here (omega (arith, none.1))
    by more (inr l) = record { at = l.at; inside = l.inside; has = omega (arith, l.has) }

-- ---- the least numbers of a condition's W's and of its L's tell whether it is satisfied
bit_of : (test : Mark → Bool) (marks : List Mark) (mask c : ℕ) → IsMask test marks mask → test (mark_at marks c) ≡ true → bit_at mask c ≡ 1
bit_of test marks mask c h passes = h c ∙ ap (λ (t : Bool). cond t 1 0) passes

pub satisfied-no_loss : (levels : List ℕ) (marks : List Mark) (losses : ℕ) → IsMask is_loss marks losses → losses ≡ 0 → satisfies levels marks ≡ true
satisfied-no_loss levels marks losses h none =
    satisfied-WinAbove levels marks (λ d loss. absurd (omega (arith, bit_of is_loss marks losses d h (ap is_loss loss), ap (λ (x : ℕ). bit_at x d) none, bit_at-zero d)))

pub satisfied-less : (levels : List ℕ) (marks : List Mark) (wins losses win loss : ℕ) → IsMask is_win marks wins → IsMask is_loss marks losses → IsLevelOf levels wins win → ((c : ℕ) → bit_at losses c ≡ 1 → loss ≤ slice_index levels c) → win < loss
    → satisfies levels marks ≡ true
satisfied-less levels marks wins losses win loss p q w least less =
    let has : is_win (mark_at marks w.at) ≡ true = bit_true (bit_at wins w.at) _ w.inside (p w.at) in
    let mark : mark_at marks w.at ≡ W = is_win-true _ has in
    let within : w.at < length marks = mark_at-within marks w.at (λ even. let no : W ≡ E = sym mark ∙ even in cc) in
    satisfied-WinAbove levels marks (λ d lost. record { it = w.at; within = within; win = mark; above = omega (arith, w.has, least d (bit_of is_loss marks losses d q (ap is_loss lost))) })

pub unsatisfied-more : (levels : List ℕ) (marks : List Mark) (wins losses win loss : ℕ) → IsMask is_win marks wins → IsMask is_loss marks losses → IsLevelOf levels losses loss → ((c : ℕ) → bit_at wins c ≡ 1 → win ≤ slice_index levels c) → loss ≤ win
    → satisfies levels marks ≡ false
unsatisfied-more levels marks wins losses win loss p q l least more =
    let has : is_loss (mark_at marks l.at) ≡ true = bit_true (bit_at losses l.at) _ l.inside (q l.at) in
    false_from_ne_true _ (λ h.
    let a = WinAbove-satisfied levels marks h l.at (is_loss-true _ has) in
    absurd (omega (arith, a.above, l.has, least a.it (bit_of is_win marks wins a.it p (ap is_win a.win)))))
