-- Marks and their masks.
use Rattle.std.proofs.Common.{◌≡◌, ◌≢◌, ℕ, ◌+◌, ◌*◌, ◌%◌, ◌^◌, ◌<◌, ◌≤◌, min, List, Bool, true, false, not, cond, length, take, map, arith, refl, sym, ap, ◌∙◌, inl, inr}
use Rattle.std.specs.Prelude.{bit_and, bit_or, ◌==◌, if◌then◌else◌}
use Rattle.std.specs.Int.{bit_at, w64, trailing_zeros}
use Rattle.std.specs.List.{list_any}
use Rattle.std.proofs.lemmas.Bool.{cases_lt, cases_eq}
use Rattle.std.proofs.lemmas.Bool.Decides.{eqb_tells}
use Rattle.std.proofs.lemmas.List.Folds.{list_any_at, list_any_none}
use Rattle.std.proofs.lemmas.List.{get_or_past, get_or_default, get_or-map, get_or-take, length-map, length-take-le, take_all}
use Rattle.std.proofs.lemmas.List.FromFn.{fill_by_all}
use Rattle.std.proofs.lemmas.Nat.Bits.{bit_at_and, bit_at_or, bit_at-zero, bit_at_set_same, bit_at_set_other, same_from_bits, bit_at-trailing_zeros}
use Rattle.std.proofs.lemmas.Simd.{mask_l-lt}
use Rattle.ot_theory.specs.declared.Mark.{Mark}
use Rattle.ot_theory.specs.declared.Mark.TheVariants.{W, L, E}
use Rattle.ot_theory.specs.Conditions.{is_win, is_loss, mark_at, exchanged}
use Rattle.erc_vectors.specs.Masks.{IsMask, AreMasks, marks_of, mark_in, mask_of, same_mask, IsMask-mask_of, IsMask-wins, IsMask-losses, length-marks_of, mark_at-marks_of}

-- ---- the masks give the marks back
mark_by_bits : (m : Mark) (a b : ℕ) → a ≡ (if is_win m then 1 else 0) → b ≡ (if is_loss m then 1 else 0) → (if a == 1 then W else if b == 1 then L else E) ≡ m
mark_by_bits W a b p q = rw p refl
mark_by_bits L a b p q = rw (p, q) refl
mark_by_bits E a b p q = rw (p, q) refl

pub marks_of-masks : (n w l : ℕ) (marks : List Mark) → length marks ≡ n → IsMask is_win marks w → IsMask is_loss marks l → marks_of n w l ≡ marks
marks_of-masks n w l marks long p q =
    sym (fill_by_all (mark_in w l) marks n E long (λ k below. sym (mark_by_bits (mark_at marks k) (bit_at w k) (bit_at l k) (p k) (q k))))

-- ---- masks of marks are masks of a condition
pub IsMask-below : (test : Mark → Bool) (marks : List Mark) (mask : ℕ) → test E ≡ false → IsMask test marks mask → mask < 2 ^ length marks
IsMask-below test marks mask even h =
    rw (same_mask test marks mask (mask_of test marks) h (IsMask-mask_of test marks even)) (rw (length-map marks test) at (mask_l-lt (map test marks)))

not_both : (m : Mark) (a b : ℕ) → a ≡ (if is_win m then 1 else 0) → b ≡ (if is_loss m then 1 else 0) → min a b ≡ 0
not_both W a b p q = omega arith
not_both L a b p q = omega arith
not_both E a b p q = omega arith

pub masks-apart : (marks : List Mark) (w l : ℕ) → IsMask is_win marks w → IsMask is_loss marks l → bit_and w l ≡ 0
masks-apart marks w l p q =
    same_from_bits (bit_and w l) 0 (λ c. bit_at_and w l c ∙ not_both (mark_at marks c) (bit_at w c) (bit_at l c) (p c) (q c) ∙ sym (bit_at-zero c))

pub AreMasks-from : (limit n w l : ℕ) (marks : List Mark) → length marks ≡ n → n ≤ limit → IsMask is_win marks w → IsMask is_loss marks l → AreMasks limit n w l
AreMasks-from limit n w l marks long small p q = record {
  fits = small;
  wins_below = rw long at (IsMask-below is_win marks w refl p);
  losses_below = rw long at (IsMask-below is_loss marks l refl q);
  apart = masks-apart marks w l p q;
}

-- ---- W and L exchanged
is_win-exchanged : (m : Mark) → is_win (exchanged m) ≡ is_loss m
is_win-exchanged W = refl
is_win-exchanged L = refl
is_win-exchanged E = refl

is_loss-exchanged : (m : Mark) → is_loss (exchanged m) ≡ is_win m
is_loss-exchanged W = refl
is_loss-exchanged L = refl
is_loss-exchanged E = refl

mark_at-exchanged : (marks : List Mark) (c : ℕ) → mark_at (map exchanged marks) c ≡ exchanged (mark_at marks c)
mark_at-exchanged marks c = elim (cases_lt c (length marks)) [
  | inl below ↦ get_or-map exchanged marks c E E below
  | inr past ↦ get_or_past (map exchanged marks) c E (omega (arith, length-map marks exchanged)) ∙ sym (ap exchanged (get_or_past marks c E past))
]

pub IsMask-exchanged_wins : (marks : List Mark) (l : ℕ) → IsMask is_loss marks l → IsMask is_win (map exchanged marks) l
IsMask-exchanged_wins marks l h c = h c ∙ ap (λ (t : Bool). cond t 1 0) (sym (ap is_win (mark_at-exchanged marks c) ∙ is_win-exchanged (mark_at marks c)))

pub IsMask-exchanged_losses : (marks : List Mark) (w : ℕ) → IsMask is_win marks w → IsMask is_loss (map exchanged marks) w
IsMask-exchanged_losses marks w h c = h c ∙ ap (λ (t : Bool). cond t 1 0) (sym (ap is_loss (mark_at-exchanged marks c) ∙ is_loss-exchanged (mark_at marks c)))

-- ---- one mark more
front_at : (marks : List Mark) (k c : ℕ) → c < k → mark_at (take k marks) c ≡ mark_at marks c
front_at marks k c below = get_or-take k marks c E below

front_past : (marks : List Mark) (k c : ℕ) → k ≤ length marks → k ≤ c → mark_at (take k marks) c ≡ E
front_past marks k c within past = get_or_past (take k marks) c E (omega (arith, length-take-le k marks within))

-- the marks at other places are the same
front_other : (marks : List Mark) (k c : ℕ) → k < length marks → c ≢ k → mark_at (take (k + 1) marks) c ≡ mark_at (take k marks) c
front_other marks k c within other = elim (cases_lt c k) [
  | inl below ↦ front_at marks (k + 1) c (omega arith) ∙ sym (front_at marks k c below)
  | inr past ↦ front_past marks (k + 1) c (omega arith) (omega arith) ∙ sym (front_past marks k c (omega arith) past)
]

-- a mark that passes
pub IsMask-set : (test : Mark → Bool) (marks : List Mark) (k mask : ℕ) → k < length marks → k < 64 → test (mark_at marks k) ≡ true → IsMask test (take k marks) mask → IsMask test (take (k + 1) marks) (bit_or mask (1 * 2 ^ k % 2 ^ 64))
IsMask-set test marks k mask within small passes h c = elim (cases_eq c k) [
  | inl same ↦ rw same (bit_at_set_same w64 mask k small ∙ sym (ap (λ (m : Mark). cond (test m) 1 0) (front_at marks (k + 1) k (omega arith)) ∙ ap (λ (t : Bool). cond t 1 0) passes))
  | inr other ↦ bit_at_set_other w64 mask k small c other ∙ h c ∙ ap (λ (m : Mark). cond (test m) 1 0) (sym (front_other marks k c within other))
]

-- a mark that does not
pub IsMask-kept : (test : Mark → Bool) (marks : List Mark) (k mask : ℕ) → test E ≡ false → k < length marks → test (mark_at marks k) ≡ false → IsMask test (take k marks) mask → IsMask test (take (k + 1) marks) mask
IsMask-kept test marks k mask even within fails h c = elim (cases_eq c k) [
  | inl same ↦ h c ∙ rw same (ap (λ (m : Mark). cond (test m) 1 0) (front_past marks k k (omega arith) (omega arith)) ∙ ap (λ (t : Bool). cond t 1 0) (even ∙ sym fails) ∙ sym (ap (λ (m : Mark). cond (test m) 1 0) (front_at marks (k + 1) k (omega arith))))
  | inr other ↦ h c ∙ ap (λ (m : Mark). cond (test m) 1 0) (sym (front_other marks k c within other))
]

pub IsMask-all : (test : Mark → Bool) (marks : List Mark) (k mask : ℕ) → length marks ≤ k → IsMask test (take k marks) mask → IsMask test marks mask
IsMask-all test marks k mask all h = rw (take_all k marks all) at h

-- ---- what a condition shows of its masks
pub width-seen : (n w l : ℕ) (marks : List Mark) → marks_of n w l ≡ marks → n ≡ length marks
width-seen n w l marks e = sym (length-marks_of n w l) ∙ ap (λ (m : List Mark). length m) e

pub mark-seen : (n w l c : ℕ) (marks : List Mark) → marks_of n w l ≡ marks → c < length marks → mark_at marks c ≡ mark_in w l c
mark-seen n w l c marks e below = ap (λ (m : List Mark). mark_at m c) (sym e) ∙ mark_at-marks_of n w l c (omega (arith, width-seen n w l marks e))

pub IsMask-seen_wins : (limit n w l : ℕ) (marks : List Mark) → marks_of n w l ≡ marks → AreMasks limit n w l → IsMask is_win marks w
IsMask-seen_wins limit n w l marks e h = rw e at (IsMask-wins limit n w l h)

pub IsMask-seen_losses : (limit n w l : ℕ) (marks : List Mark) → marks_of n w l ≡ marks → AreMasks limit n w l → IsMask is_loss marks l
IsMask-seen_losses limit n w l marks e h = rw e at (IsMask-losses limit n w l h)

-- ---- whether any mark passes
pub bit_true : (n : ℕ) (t : Bool) → n ≡ 1 → n ≡ cond t 1 0 → t ≡ true
bit_true n true one e = refl
bit_true n false one e = absurd (omega arith)

pub bit_false : (n : ℕ) (t : Bool) → n ≡ 0 → n ≡ cond t 1 0 → t ≡ false
bit_false n true none e = absurd (omega arith)
bit_false n false none e = refl

pub any-mask : (test : Mark → Bool) (marks : List Mark) (mask : ℕ) → test E ≡ false → mask < 2 ^ 64 → IsMask test marks mask → list_any test marks ≡ not (mask == 0)
any-mask test marks mask even small h = elim (eqb_tells mask 0) [
  | inl none ↦ rw none.0 (list_any_none test marks (λ k d below. ap test (get_or_default marks k d E below) ∙ bit_false (bit_at mask k) (test (mark_at marks k)) (ap (λ (x : ℕ). bit_at x k) none.1 ∙ bit_at-zero k) (h k)))
  | inr some ↦ rw some.0 (found (bit_at-trailing_zeros w64 mask (omega (arith, some.1)) small))
]
  where
    found : (trailing_zeros w64 mask < 64) × (bit_at mask (trailing_zeros w64 mask) ≡ 1) × ((i : ℕ) → i < trailing_zeros w64 mask → bit_at mask i ≡ 0) → list_any test marks ≡ true
    found f =
        let k : ℕ = trailing_zeros w64 mask in
        let passes : test (mark_at marks k) ≡ true = bit_true (bit_at mask k) _ f.1 (h k) in
        elim (cases_lt k (length marks)) [
          | inl below ↦ list_any_at test marks k E below passes
          | inr past ↦ let no : true ≡ false = sym passes ∙ ap test (get_or_past marks k E past) ∙ even in absurd (cc)
        ]

-- ---- one mark more, by whether it passes
or_nothing : (a : ℕ) → bit_or a 0 ≡ a
or_nothing a = same_from_bits (bit_or a 0) a (λ c. bit_at_or a 0 c ∙ omega (arith, bit_at-zero c))

pub IsMask-put : (test : Mark → Bool) (marks : List Mark) (k mask : ℕ) (passes : Bool) → test E ≡ false → k < length marks → k < 64 → test (mark_at marks k) ≡ passes → IsMask test (take k marks) mask
    → IsMask test (take (k + 1) marks) (bit_or mask (cond passes 1 0 * 2 ^ k % 2 ^ 64))
IsMask-put test marks k mask true even within small e h = IsMask-set test marks k mask within small e h
IsMask-put test marks k mask false even within small e h =
    let none : 0 * 2 ^ k % 2 ^ 64 ≡ 0 = omega arith in
    rw (none, or_nothing mask) (IsMask-kept test marks k mask even within e h)
