-- What the open conditions say of the constraints, condition by condition.
use Rattle.std.proofs.Common.{◌≡◌, ℕ, zero, suc, ◌+◌, ◌^◌, ◌<◌, ◌≤◌, List, [], ◌∷◌, Bool, true, false, not, ◌&&◌, ◌||◌, ◌==◌, cond, length, take, get_or, slice_index, arith, refl, sym, ap, ◌∙◌, inl, inr}
use Rattle.std.specs.Prelude.{bit_and, bit_or, nat_lt, All}
use Rattle.std.specs.List.{list_any, range_with_len}
use Rattle.std.proofs.lemmas.Bool.{cases_Bool, cases_lt, and_parts, and_from, ne_eqb, lt-ltb}
use Rattle.std.proofs.lemmas.List.Elements.{All-head, All-tail}
use Rattle.std.proofs.lemmas.List.Folds.{list_any_more, list_any_at}
use Rattle.std.proofs.lemmas.Nat.Bits.{bit_at_or}
use Rattle.ot_theory.specs.declared.Mark.{Mark}
use Rattle.ot_theory.specs.declared.Mark.TheVariants.{L, E}
use Rattle.ot_theory.specs.Conditions.{is_win, is_loss, mark_at}
use Rattle.ot_theory.specs.Demotion.{is_closed, is_blocked, is_open}
use Rattle.ot_theory.proofs.Strata.{mark_at-within, is_loss-true}
use Rattle.erc_vectors.specs.Masks.{IsMask}
use Rattle.erc_vectors.proofs.Bits.{any-mask}
use Rattle.demotion.specs.Placed.{levels_of}
use Rattle.demotion.proofs.Masked.{blocked-same, closed-mask}
use Rattle.biased_demotion.specs.Biased.{is_free, has_open_win}
use Rattle.biased_demotion.specs.Shown.{Shows}
use Rattle.biased_demotion.proofs.Shown.{max_bits}

-- whether a condition is open, by its masks and the placed constraints
pub open-mask : (marks : List Mark) (w l placed : ℕ) → length marks ≤ 64 → w < 2 ^ 64 → l < 2 ^ 64 → IsMask is_win marks w → IsMask is_loss marks l → (not (l == 0) && (bit_and w placed == 0)) ≡ is_open (levels_of placed) marks
open-mask marks w l placed short small low p q =
    rw (any-mask is_loss marks l refl low q, closed-mask marks w placed short small p) (by (not (l == 0)) (bit_and w placed == 0))
  where
    by : (a b : Bool) → (a && b) ≡ (a && not (not b))
    by true true = refl
    by true false = refl
    by false b = refl

pub open-lossless : (marks : List Mark) (l placed : ℕ) → l < 2 ^ 64 → IsMask is_loss marks l → l ≡ 0 → false ≡ is_open (levels_of placed) marks
open-lossless marks l placed low q none = rw (any-mask is_loss marks l refl low q, none) refl

or_false : (a : Bool) → (a || false) ≡ a
or_false true = refl
or_false false = refl

-- a condition that is not open is closed, or has no L
no_loss : (levels : List ℕ) (marks : List Mark) (c : ℕ) → is_open levels marks ≡ false → (not (is_closed levels marks) && is_loss (mark_at marks c)) ≡ false
no_loss levels marks c shut = elim (cases_Bool (not (is_closed levels marks) && is_loss (mark_at marks c))) [
  | inr none ↦ none
  | inl some ↦
      let parts = and_parts (not (is_closed levels marks)) (is_loss (mark_at marks c)) some in
      let loss : mark_at marks c ≡ L = is_loss-true (mark_at marks c) parts.1 in
      let within = mark_at-within marks c (λ even. let no : L ≡ E = sym loss ∙ even in cc) in
      let opened : is_open levels marks ≡ true = and_from _ _ (list_any_at is_loss marks c E within parts.1) parts.0 in
      absurd (cc)
]

pub losses-open : (levels : List ℕ) (set : List (List Mark)) (k mask l : ℕ) (d : List Mark) → k < length set → IsMask is_loss (get_or set k d) l → is_open levels (get_or set k d) ≡ true → Shows mask (is_blocked levels (take k set)) → Shows (bit_or mask l) (is_blocked levels (take (k + 1) set))
losses-open levels set k mask l d within q opened h c =
    let marks : List Mark = get_or set k d in
    let live : not (is_closed levels marks) ≡ true = (and_parts (list_any is_loss marks) (not (is_closed levels marks)) opened).1 in
    let before : Bool = is_blocked levels (take k set) c in
    let more : is_blocked levels (take (k + 1) set) c ≡ (before || is_loss (mark_at marks c)) =
    list_any_more (λ m. not (is_closed levels m) && is_loss (mark_at m c)) set k d within ∙ ap (λ (t : Bool). before || (t && is_loss (mark_at marks c))) live in
    bit_at_or mask l c ∙ rw (h c, q c, more) (max_bits before (is_loss (mark_at marks c)))

pub losses-shut : (levels : List ℕ) (set : List (List Mark)) (k mask : ℕ) (d : List Mark) → k < length set → is_open levels (get_or set k d) ≡ false → Shows mask (is_blocked levels (take k set)) → Shows mask (is_blocked levels (take (k + 1) set))
losses-shut levels set k mask d within shut h c =
    let marks : List Mark = get_or set k d in
    let before : Bool = is_blocked levels (take k set) c in
    let more : is_blocked levels (take (k + 1) set) c ≡ before =
    list_any_more (λ m. not (is_closed levels m) && is_loss (mark_at m c)) set k d within ∙ ap (λ (t : Bool). before || t) (no_loss levels marks c shut) ∙ or_false before in
    h c ∙ ap (λ (t : Bool). cond t 1 0) (sym more)

pub wins-open : (levels : List ℕ) (set : List (List Mark)) (k mask w : ℕ) (d : List Mark) → k < length set → IsMask is_win (get_or set k d) w → is_open levels (get_or set k d) ≡ true → Shows mask (has_open_win levels (take k set)) → Shows (bit_or mask w) (has_open_win levels (take (k + 1) set))
wins-open levels set k mask w d within q opened h c =
    let marks : List Mark = get_or set k d in
    let before : Bool = has_open_win levels (take k set) c in
    let more : has_open_win levels (take (k + 1) set) c ≡ (before || is_win (mark_at marks c)) =
    list_any_more (λ m. is_open levels m && is_win (mark_at m c)) set k d within ∙ ap (λ (t : Bool). before || (t && is_win (mark_at marks c))) opened in
    bit_at_or mask w c ∙ rw (h c, q c, more) (max_bits before (is_win (mark_at marks c)))

pub wins-shut : (levels : List ℕ) (set : List (List Mark)) (k mask : ℕ) (d : List Mark) → k < length set → is_open levels (get_or set k d) ≡ false → Shows mask (has_open_win levels (take k set)) → Shows mask (has_open_win levels (take (k + 1) set))
wins-shut levels set k mask d within shut h c =
    let marks : List Mark = get_or set k d in
    let before : Bool = has_open_win levels (take k set) c in
    let more : has_open_win levels (take (k + 1) set) c ≡ before =
    list_any_more (λ m. is_open levels m && is_win (mark_at m c)) set k d within ∙ ap (λ (t : Bool). before || (t && is_win (mark_at marks c))) shut ∙ or_false before in
    h c ∙ ap (λ (t : Bool). cond t 1 0) (sym more)

-- ---- numbers that tell of the same constraints that they are placed
abbrev pub PlacesSame : ℕ → List ℕ → List ℕ → Type 0
PlacesSame n a b = (c : ℕ) → c < n → nat_lt 0 (slice_index a c) ≡ nat_lt 0 (slice_index b c)

any-range_same : (f g : ℕ → Bool) (s n : ℕ) → ((k : ℕ) → k < s + n → f k ≡ g k) → list_any f (range_with_len s n) ≡ list_any g (range_with_len s n)
any-range_same f g s zero h = refl
any-range_same f g s (suc n) h =
    let here : f s ≡ g s = h s (omega arith) in
    let later = any-range_same f g (s + 1) n (λ k u. h k (omega arith)) in cc

open-same : (a b : List ℕ) (n : ℕ) (marks : List Mark) → length marks ≡ n → PlacesSame n a b → is_open a marks ≡ is_open b marks
open-same a b n marks long h = ap (λ (t : Bool). list_any is_loss marks && not t)
    (any-range_same (λ c. is_win (mark_at marks c) && nat_lt 0 (slice_index a c)) (λ c. is_win (mark_at marks c) && nat_lt 0 (slice_index b c)) 0 (length marks)
    (λ k u. ap (λ (t : Bool). is_win (mark_at marks k) && t) (h k (omega arith))))

pub open_win-same : (a b : List ℕ) (n : ℕ) (set : List (List Mark)) (d : ℕ) → All (λ marks. length marks ≡ n) set → PlacesSame n a b → has_open_win a set d ≡ has_open_win b set d
open_win-same a b n [] d widths h = refl
open_win-same a b n (marks ∷ set) d widths h =
    let here = open-same a b n marks (All-head (λ m. length m ≡ n) marks set widths) h in
    let later = open_win-same a b n set d (All-tail (λ m. length m ≡ n) marks set widths) h in
    rw (here, later) refl

pub zero_test : (x : ℕ) → (x == 0) ≡ not (nat_lt 0 x)
zero_test x = elim (cases_lt 0 x) [
  | inl some ↦ ne_eqb x 0 (λ e. omega arith) ∙ sym (ap not (lt-ltb 0 x some))
  | inr none ↦ let z : x ≡ 0 = omega arith in rw z refl
]

pub free-same : (a b : List ℕ) (n : ℕ) (set : List (List Mark)) (d : ℕ) → All (λ marks. length marks ≡ n) set → PlacesSame n a b → d < n → is_free a set d ≡ is_free b set d
free-same a b n set d widths h below =
    let blocked = blocked-same a b n set d widths h in
    let placed : (slice_index a d == 0) ≡ (slice_index b d == 0) = zero_test (slice_index a d) ∙ ap not (h d below) ∙ sym (zero_test (slice_index b d)) in
    rw (placed, blocked) refl
