-- Closed and blocked, by masks of the placed constraints.
use Rattle.std.proofs.Common.{◌≡◌, ◌≢◌, ℕ, zero, suc, ◌+◌, ◌-◌, ◌^◌, ◌<◌, ◌≤◌, min, max, List, [], ◌∷◌, Bool, true, false, not, ◌&&◌, ◌||◌, ◌==◌, cond, length, take, get_or, slice_index, arith, refl, sym, ap, ◌∙◌, inl, inr}
use Rattle.std.specs.Prelude.{bit_and, bit_or, nat_lt, All}
use Rattle.std.specs.List.{list_any, range_with_len}
use Rattle.std.specs.Int.{bit_at, bit_not, w64, trailing_zeros}
use Rattle.std.proofs.lemmas.Bool.{cases_lt, and_from, lt-ltb, ne_eqb, false_from_ne_true}
use Rattle.std.proofs.lemmas.Bool.Decides.{eqb_tells}
use Rattle.std.proofs.lemmas.List.Elements.{All-head, All-tail}
use Rattle.std.proofs.lemmas.List.Folds.{list_any_more}
use Rattle.std.proofs.lemmas.List.FromFn.{get_or-map-range_with_len}
use Rattle.std.proofs.lemmas.Nat.{and_le_l}
use Rattle.std.proofs.lemmas.Nat.Bits.{bit_at-lt, bit_at_and, bit_at_or, bit_at_not, bit_at-zero, bit_at-trailing_zeros}
use Rattle.ot_theory.specs.declared.Mark.{Mark}
use Rattle.ot_theory.specs.declared.Mark.TheVariants.{W, E}
use Rattle.ot_theory.specs.Conditions.{is_win, is_loss, mark_at}
use Rattle.ot_theory.specs.Demotion.{is_closed, is_blocked, level_after}
use Rattle.ot_theory.proofs.Demotion.{PlacedWin, closed-placed, IsRound}
use Rattle.ot_theory.proofs.Strata.{range-any, mark_at-within, is_win-true}
use Rattle.erc_vectors.specs.Masks.{IsMask}
use Rattle.erc_vectors.proofs.Bits.{bit_true}
use Rattle.demotion.specs.Placed.{levels_of, has_bit}

pub level-bit : (mask c : ℕ) → c < 64 → slice_index (levels_of mask) c ≡ bit_at mask c
level-bit mask c within = get_or-map-range_with_len (bit_at mask) 0 64 c c 0 within (omega arith)

-- a condition is closed exactly where its W's and the placed constraints have one in common
pub closed-mask : (marks : List Mark) (w placed : ℕ) → length marks ≤ 64 → w < 2 ^ 64 → IsMask is_win marks w → is_closed (levels_of placed) marks ≡ not (bit_and w placed == 0)
closed-mask marks w placed short small m = elim (eqb_tells (bit_and w placed) 0) [
  | inl none ↦ rw none.0 (false_from_ne_true _ (λ closed. apart none.1 (closed-placed (levels_of placed) marks closed)))
  | inr some ↦ rw some.0 (met (bit_at-trailing_zeros w64 (bit_and w placed) (omega (arith, some.1)) (omega (arith, and_le_l w placed))))
]
  where
    apart : bit_and w placed ≡ 0 → PlacedWin (levels_of placed) marks → ⊥
    apart none p =
        let within : p.it < 64 = omega (arith, p.within) in
        let win : bit_at w p.it ≡ 1 = m p.it ∙ ap (λ (x : Mark). cond (is_win x) 1 0) p.win in
        let set : 0 < bit_at placed p.it = omega (arith, p.placed, level-bit placed p.it within) in
        let zero : bit_at (bit_and w placed) p.it ≡ 0 = ap (λ (x : ℕ). bit_at x p.it) none ∙ bit_at-zero p.it in
        absurd (omega (arith, bit_at_and w placed p.it))

    met : (trailing_zeros w64 (bit_and w placed) < 64) × (bit_at (bit_and w placed) (trailing_zeros w64 (bit_and w placed)) ≡ 1) × ((i : ℕ) → i < trailing_zeros w64 (bit_and w placed) → bit_at (bit_and w placed) i ≡ 0)
        → is_closed (levels_of placed) marks ≡ true
    met h =
        let k : ℕ = trailing_zeros w64 (bit_and w placed) in
        let both : min (bit_at w k) (bit_at placed k) ≡ 1 = sym (bit_at_and w placed k) ∙ h.1 in
        let win : is_win (mark_at marks k) ≡ true = bit_true (bit_at w k) _ (omega (arith, bit_at-lt w k)) (m k) in
        let is_w : mark_at marks k ≡ W = is_win-true (mark_at marks k) win in
        let within = mark_at-within marks k (λ even. let no : W ≡ E = sym is_w ∙ even in cc) in
        range-any (λ c. is_win (mark_at marks c) && nat_lt 0 (slice_index (levels_of placed) c)) 0 (length marks) k (omega arith) (omega (arith, within))
        (and_from _ _ win (lt-ltb _ _ (omega (arith, level-bit placed k h.0, bit_at-lt w k))))

-- ---- the conditions so far, and one more
pub max_bits : (a b : Bool) → max (cond a 1 0) (cond b 1 0) ≡ cond (a || b) 1 0
max_bits true true = refl
max_bits true false = refl
max_bits false true = refl
max_bits false false = refl

-- what is blocked by the conditions so far, with one more
pub blocked-more : (placed : ℕ) (set : List (List Mark)) (k mask losses : ℕ) (d : List Mark) → k < length set → ((c : ℕ) → bit_at mask c ≡ cond (is_blocked (levels_of placed) (take k set) c) 1 0)
    → ((c : ℕ) → bit_at losses c ≡ cond (not (is_closed (levels_of placed) (get_or set k d)) && is_loss (mark_at (get_or set k d) c)) 1 0)
    → (c : ℕ) → bit_at (bit_or mask losses) c ≡ cond (is_blocked (levels_of placed) (take (k + 1) set) c) 1 0
blocked-more placed set k mask losses d within h q c =
    let more = list_any_more (λ m. not (is_closed (levels_of placed) m) && is_loss (mark_at m c)) set k d within in
    bit_at_or mask losses c ∙ rw (h c, q c, more) (max_bits (is_blocked (levels_of placed) (take k set) c) (not (is_closed (levels_of placed) (get_or set k d)) && is_loss (mark_at (get_or set k d) c)))

-- what a condition without L blocks, and one whose W's and the placed constraints are compared
pub losses-none : (marks : List Mark) (losses placed : ℕ) → IsMask is_loss marks losses → losses ≡ 0 → (c : ℕ) → bit_at 0 c ≡ cond (not (is_closed (levels_of placed) marks) && is_loss (mark_at marks c)) 1 0
losses-none marks losses placed m none c = bit_at-zero c ∙ by (not (is_closed (levels_of placed) marks)) (is_loss (mark_at marks c)) (sym (bit_at-zero c) ∙ ap (λ (x : ℕ). bit_at x c) (sym none) ∙ m c)
  where
    by : (a b : Bool) → ◌≡◌ {A = ℕ} 0 (cond b 1 0) → ◌≡◌ {A = ℕ} 0 (cond (a && b) 1 0)
    by a true e = absurd (omega arith)
    by true false e = refl
    by false false e = refl

pub losses-open : (marks : List Mark) (wins losses placed : ℕ) → length marks ≤ 64 → wins < 2 ^ 64 → IsMask is_win marks wins → IsMask is_loss marks losses → bit_and wins placed ≡ 0
    → (c : ℕ) → bit_at losses c ≡ cond (not (is_closed (levels_of placed) marks) && is_loss (mark_at marks c)) 1 0
losses-open marks wins losses placed short small p q none c =
    let opened : is_closed (levels_of placed) marks ≡ false = closed-mask marks wins placed short small p ∙ ap (λ (x : ℕ). not (x == 0)) none in
    rw opened (q c)

pub losses-closed : (marks : List Mark) (wins placed : ℕ) → length marks ≤ 64 → wins < 2 ^ 64 → IsMask is_win marks wins → bit_and wins placed ≢ 0
    → (c : ℕ) → bit_at 0 c ≡ cond (not (is_closed (levels_of placed) marks) && is_loss (mark_at marks c)) 1 0
losses-closed marks wins placed short small p some c =
    let closed : is_closed (levels_of placed) marks ≡ true = closed-mask marks wins placed short small p ∙ ap not (ne_eqb (bit_and wins placed) 0 some) in
    rw closed (bit_at-zero c)

-- ---- by the mask as by the numbers
any-range_same : (f g : ℕ → Bool) (s n : ℕ) → ((k : ℕ) → k < s + n → f k ≡ g k) → list_any f (range_with_len s n) ≡ list_any g (range_with_len s n)
any-range_same f g s zero h = refl
any-range_same f g s (suc n) h =
    let here : f s ≡ g s = h s (omega arith) in
    let later = any-range_same f g (s + 1) n (λ k u. h k (omega arith)) in cc

closed-same : (a b : List ℕ) (n : ℕ) (marks : List Mark) → length marks ≡ n → ((c : ℕ) → c < n → nat_lt 0 (slice_index a c) ≡ nat_lt 0 (slice_index b c)) → is_closed a marks ≡ is_closed b marks
closed-same a b n marks long h =
    any-range_same (λ c. is_win (mark_at marks c) && nat_lt 0 (slice_index a c)) (λ c. is_win (mark_at marks c) && nat_lt 0 (slice_index b c)) 0 (length marks)
    (λ k u. ap (λ (t : Bool). is_win (mark_at marks k) && t) (h k (omega arith)))

pub blocked-same : (a b : List ℕ) (n : ℕ) (set : List (List Mark)) (d : ℕ) → All (λ marks. length marks ≡ n) set → ((c : ℕ) → c < n → nat_lt 0 (slice_index a c) ≡ nat_lt 0 (slice_index b c)) → is_blocked a set d ≡ is_blocked b set d
blocked-same a b n [] d widths h = refl
blocked-same a b n (marks ∷ set) d widths h =
    let here = closed-same a b n marks (All-head (λ m. length m ≡ n) marks set widths) h in
    let later = blocked-same a b n set d (All-tail (λ m. length m ≡ n) marks set widths) h in
    rw (here, later) refl

-- ---- the mask of the placed constraints after a round
one_bit : (t : Bool) → (cond t 1 0 == 1) ≡ t
one_bit true = refl
one_bit false = refl

-- whether a bit is set, from what the bit is
pub flagged : (mask c : ℕ) (t : Bool) → bit_at mask c ≡ cond t 1 0 → has_bit mask c ≡ t
flagged mask c t e = ap (λ (x : ℕ). x == 1) e ∙ one_bit t

placed_bit : (old given a b : ℕ) (blocked : Bool) → 0 < given → a ≡ cond (nat_lt 0 old) 1 0 → b ≡ cond blocked 1 0 → max a (1 - b) ≡ cond (nat_lt 0 (level_after old blocked given)) 1 0
placed_bit old given a b true some p q = elim (cases_lt 0 old) [
  | inl placed ↦ let t = lt-ltb 0 old placed in let z : (old == 0) ≡ false = ne_eqb old 0 (λ e. omega arith) in rw (q, z, p, t) refl
  | inr none ↦ let z : old ≡ 0 = omega arith in rw (q, p, z) refl
]
placed_bit old given a b false some p q = elim (cases_lt 0 old) [
  | inl placed ↦ let t = lt-ltb 0 old placed in let z : (old == 0) ≡ false = ne_eqb old 0 (λ e. omega arith) in rw (q, z, p, t) refl
  | inr none ↦ let z : old ≡ 0 = omega arith in let g = lt-ltb 0 given some in rw (q, p, z, g) refl
]

pub placed-more : (n given mask blocked : ℕ) (set : List (List Mark)) (old new : List ℕ) → n ≤ 64 → 0 < given → mask < 2 ^ 64 → blocked < 2 ^ 64
    → ((c : ℕ) → c < n → bit_at mask c ≡ cond (nat_lt 0 (slice_index old c)) 1 0) → ((c : ℕ) → bit_at blocked c ≡ cond (is_blocked (levels_of mask) set c) 1 0)
    → ((c : ℕ) → c < n → slice_index new c ≡ level_after (slice_index old c) (has_bit blocked c) given)
    → (c : ℕ) → c < n → bit_at (bit_or mask (bit_not w64 blocked)) c ≡ cond (nat_lt 0 (slice_index new c)) 1 0
placed-more n given mask blocked set old new few some small low m b each c below =
    let flag : has_bit blocked c ≡ is_blocked (levels_of mask) set c = flagged blocked c _ (b c) in
    bit_at_or mask (bit_not w64 blocked) c
    ∙ ap (λ (x : ℕ). max (bit_at mask c) x) (bit_at_not w64 blocked c low (omega arith))
    ∙ placed_bit (slice_index old c) given (bit_at mask c) (bit_at blocked c) (is_blocked (levels_of mask) set c) some (m c below) (b c)
    ∙ rw (each c below, flag) refl

-- the numbers and the mask tell of the same constraints that they are placed
pub placed-same : (n mask : ℕ) (levels : List ℕ) → n ≤ 64 → ((c : ℕ) → c < n → bit_at mask c ≡ cond (nat_lt 0 (slice_index levels c)) 1 0) → (c : ℕ) → c < n → nat_lt 0 (slice_index levels c) ≡ nat_lt 0 (slice_index (levels_of mask) c)
placed-same n mask levels few m c below = sym (ap (nat_lt 0) (level-bit mask c (omega arith) ∙ m c below) ∙ positive (nat_lt 0 (slice_index levels c)))
  where
    positive : (t : Bool) → nat_lt 0 (cond t 1 0) ≡ t
    positive true = refl
    positive false = refl

-- a round by masks
pub IsRound-masked : (n given mask blocked : ℕ) (set : List (List Mark)) (old new : List ℕ) → n ≤ 64 → length old ≡ n → length new ≡ length old → All (λ marks. length marks ≡ n) set
    → ((c : ℕ) → c < n → bit_at mask c ≡ cond (nat_lt 0 (slice_index old c)) 1 0) → ((c : ℕ) → bit_at blocked c ≡ cond (is_blocked (levels_of mask) set c) 1 0)
    → ((c : ℕ) → c < length new → slice_index new c ≡ level_after (slice_index old c) (has_bit blocked c) given) → IsRound set given old new
IsRound-masked n given mask blocked set old new few long same widths m b each = record {
  same = same;
  each = λ c below.
      let flag : has_bit blocked c ≡ is_blocked (levels_of mask) set c = flagged blocked c _ (b c) in
      let here : is_blocked old set c ≡ is_blocked (levels_of mask) set c = blocked-same old (levels_of mask) n set c widths (placed-same n mask old few m) in
      each c below ∙ ap (λ (t : Bool). level_after (slice_index old c) t given) (flag ∙ sym here);
}

-- at first none is placed
pub placed-none : (levels : List ℕ) → All (λ level. level ≡ 0) levels → (c : ℕ) → c < length levels → bit_at 0 c ≡ cond (nat_lt 0 (slice_index levels c)) 1 0
placed-none levels none c below = let z : slice_index levels c ≡ 0 = none c 0 below in bit_at-zero c ∙ rw z refl
