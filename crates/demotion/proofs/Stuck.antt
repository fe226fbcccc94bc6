-- Demotion whose only state is the mask of the placed constraints.
use Rattle.std.proofs.Common.{◌≡◌, ◌≢◌, ◌⊎◌, inl, inr, ℕ, zero, suc, ◌+◌, ◌-◌, ◌^◌, ◌<◌, ◌≤◌, ◌==◌, not, ◌&&◌, max, List, [], ◌∷◌, ◌++◌, Bool, true, false, arith, refl, sym, ap, ◌∙◌, cond, length, map, take, take-take, get_or, slice_index}
use Rattle.std.specs.Prelude.{All, bit_or, nat_lt}
use Rattle.std.specs.Int.{bit_at, bit_not, w64, trailing_zeros}
use Rattle.std.proofs.Math.Seq.{take-append-add}
use Rattle.std.proofs.lemmas.Bool.{and_from, cases_lt, ltb-true}
use Rattle.std.proofs.lemmas.Bool.Decides.{eqb_tells}
use Rattle.std.proofs.lemmas.List.{get_or_default, get_or_past}
use Rattle.std.proofs.lemmas.List.Elements.{All-nil, All-cons, All-take}
use Rattle.std.proofs.lemmas.List.Folds.{list_any_at}
use Rattle.std.proofs.lemmas.List.FromFn.{length-map-range_with_len, get_or-map-range_with_len}
use Rattle.std.proofs.lemmas.Nat.Bits.{bit_at-lt, bit_at_or, bit_at_not, bit_at-zero, bit_at-trailing_zeros}
use Rattle.ot_theory.specs.declared.Mark.{Mark}
use Rattle.ot_theory.specs.declared.Mark.TheVariants.{L, E}
use Rattle.ot_theory.specs.Conditions.{is_loss, mark_at}
use Rattle.ot_theory.specs.Rankings.{numbers_below}
use Rattle.ot_theory.specs.Demotion.{is_blocked, is_closed, level_after, IsGuarded, PlacedWin}
use Rattle.ot_theory.specs.Refutations.{no_ranking_keeps}
use Rattle.ot_theory.proofs.Demotion.{AreRounds-none, IsRound, blocked-open, closed-placed, hopeless-blocked, level_kept}
use Rattle.ot_theory.proofs.Orders.{kept-satisfied}
use Rattle.ot_theory.proofs.Strata.{mark_at-within, satisfied-WinAbove, WinAbove}
use Rattle.demotion.specs.Placed.{levels_of, has_bit}
use Rattle.demotion.proofs.Masked.{IsRound-masked, level-bit, placed-more, placed-none}

-- Numbers of the constraints of the mask, in which each L has a W above it: demotion may place these constraints.
pub record IsPlaced (n : ℕ) (set : List (List Mark)) (placed : ℕ) : Type 0 where
  pub count : ℕ
  pub levels : List ℕ
  pub width : length levels ≡ n
  pub within : (c : ℕ) → slice_index levels c ≤ count
  pub guarded : All (IsGuarded levels) set
  pub mask : (c : ℕ) → c < n → bit_at placed c ≡ cond (nat_lt 0 (slice_index levels c)) 1 0

zeros : ℕ → List ℕ
zeros zero = []
zeros (suc n) = 0 ∷ zeros n

length-zeros : (n : ℕ) → length (zeros n) ≡ n
unfolding zeros
length-zeros zero = refl
length-zeros (suc n) = ap suc (length-zeros n)

all-zeros : (n : ℕ) → All (λ level. level ≡ 0) (zeros n)
unfolding zeros
all-zeros zero = All-nil (λ level. level ≡ 0)
all-zeros (suc n) = All-cons (λ level. level ≡ 0) 0 (zeros n) refl (all-zeros n)

pub IsPlaced-none : (n : ℕ) (set : List (List Mark)) → IsPlaced n set 0
IsPlaced-none n set =
    let start = AreRounds-none n set (zeros n) (length-zeros n) (all-zeros n) in
    record {
      count = 0;
      levels = zeros n;
      width = start.width;
      within = start.within;
      guarded = start.guarded;
      mask = λ c below. placed-none (zeros n) (all-zeros n) c (omega (arith, length-zeros n));
    }

-- A round gives the free constraints a number that is greater than all before, so each L at one of them has a W above it.
guarded-more : (set : List (List Mark)) (given : ℕ) (old new : List ℕ) → IsRound set given old new → ((c : ℕ) → slice_index old c < given) → All (IsGuarded old) set → All (IsGuarded new) set
guarded-more set given old new round less h k m b d loss placed = by (eqb_tells (slice_index old d) 0)
  where
    marks : List Mark
    marks = get_or set k m

    kept : (c : ℕ) → 0 < slice_index old c → slice_index new c ≡ slice_index old c
    kept c some = elim (cases_lt c (length new)) [
      | inl below ↦ round.each c below ∙ level_kept _ _ _ (λ none. omega arith)
      | inr past ↦ absurd (omega (arith, get_or_past old c 0 (omega (arith, round.same))))
    ]

    moved : PlacedWin old marks → PlacedWin new marks
    moved w = record { it = w.it; within = w.within; win = w.win; placed = omega (arith, kept w.it w.placed, w.placed) }

    below : d < length new
    below = elim (cases_lt d (length new)) [ inl here ↦ here | inr past ↦ absurd (omega (arith, get_or_past new d 0 past)) ]

    -- the constraint is placed in this round: the condition is closed, since it is not blocked
    fresh : slice_index old d ≡ 0 → (closed : Bool) → is_closed old marks ≡ closed → (blocked : Bool) → is_blocked old set d ≡ blocked → (w : PlacedWin new marks) × (slice_index new w.it < slice_index new d)
    fresh none closed c true e = absurd (omega (arith, round.each d below, none_left none e))
      where
        none_left : slice_index old d ≡ 0 → is_blocked old set d ≡ true → level_after (slice_index old d) (is_blocked old set d) given ≡ 0
        none_left z t = rw (z, t) refl
    fresh none true c false e =
        let w = closed-placed old marks c in
        let now : slice_index new d ≡ given = round.each d below ∙ rw (none, e) refl in
        (moved w, omega (arith, now, less w.it, kept w.it w.placed))
    fresh none false c false e =
        let blocked : is_blocked old set d ≡ true = list_any_at (λ x. not (is_closed old x) && is_loss (mark_at x d)) set k m b (and_from _ _ (ap not c) (ap is_loss loss)) in
        absurd (cc)

    by : ((slice_index old d == 0) ≡ true) × (slice_index old d ≡ 0) ⊎ ((slice_index old d == 0) ≡ false) × (slice_index old d ≢ 0) → (w : PlacedWin new marks) × (slice_index new w.it < slice_index new d)
    by (inl none) = fresh none.1 (is_closed old marks) refl (is_blocked old set d) refl
    by (inr some) = let g = h k m b d loss (omega (arith, some.1)) in (moved g.0, omega (arith, g.1, kept g.0.it g.0.placed, kept d (omega (arith, some.1))))

pub IsPlaced-more : (n : ℕ) (set : List (List Mark)) (placed blocked : ℕ) → n ≤ 64 → placed < 2 ^ 64 → blocked < 2 ^ 64 → All (λ marks. length marks ≡ n) set
    → ((c : ℕ) → bit_at blocked c ≡ cond (is_blocked (levels_of placed) set c) 1 0) → IsPlaced n set placed → IsPlaced n set (bit_or placed (bit_not w64 blocked))
IsPlaced-more n set placed blocked few small low widths b h =
    let given : ℕ = h.count + 1 in
    let f : ℕ → ℕ = λ c. level_after (slice_index h.levels c) (has_bit blocked c) given in
    let new : List ℕ = map f (numbers_below n) in
    let long : length new ≡ n = length-map-range_with_len f 0 n in
    let each : (c : ℕ) → c < n → slice_index new c ≡ f c = λ c below. get_or-map-range_with_len f 0 n c c 0 below (omega arith) in
    let round = IsRound-masked n given placed blocked set h.levels new few h.width (long ∙ sym h.width) widths h.mask b (λ c below. each c (omega (arith, long))) in
    record {
      count = given;
      levels = new;
      width = long;
      within = λ c. elim (cases_lt c n) [
        | inl below ↦ omega (arith, each c below, at_most (slice_index h.levels c) (has_bit blocked c) given (omega (arith, h.within c)))
        | inr past ↦ omega (arith, get_or_past new c 0 (omega (arith, long)))
      ];
      guarded = guarded-more set given h.levels new round (λ c. omega (arith, h.within c)) h.guarded;
      mask = placed-more n given placed blocked set h.levels new few (omega arith) small low h.mask b each;
    }
  where
    at_most : (level : ℕ) (blocked : Bool) (given : ℕ) → level ≤ given → level_after level blocked given ≤ given
    at_most level blocked given h = by (level == 0) blocked
      where
        by : (a b : Bool) → cond (a && not b) given level ≤ given
        by true true = h
        by true false = omega arith
        by false b = h

-- What some conditions let be placed, the first of them do.
pub IsPlaced-front : (n : ℕ) (others set : List (List Mark)) (j k placed : ℕ) → k ≤ j → IsPlaced n (others ++ take j set) placed → IsPlaced n (others ++ take k set) placed
IsPlaced-front n others set j k placed less h = record {
  count = h.count;
  levels = h.levels;
  width = h.width;
  within = h.within;
  guarded = rw front at (All-take (IsGuarded h.levels) (length others + k) (others ++ take j set) h.guarded);
  mask = h.mask;
}
  where
    front : take (length others + k) (others ++ take j set) ≡ others ++ take k set
    front = take-append-add others (take j set) k ∙ ap (λ (l : List (List Mark)). others ++ l) (take-take k j set less)

-- Where all bits are set, some ranking keeps the conditions.
pub kept-placed : (n : ℕ) (set : List (List Mark)) (placed : ℕ) → n ≤ 64 → All (λ marks. length marks ≡ n) set → placed ≡ 18446744073709551615 → IsPlaced n set placed → no_ranking_keeps n set ≡ false
kept-placed n set placed few widths all h = kept-satisfied n set h.levels widths (record {
  width = h.width;
  from_one = some;
  each = λ k d b. satisfied-WinAbove h.levels (get_or set k d) (λ c loss. above (get_or set k d) c (widths k d b) loss (h.guarded k d b c loss));
})
  where
    by : (t : Bool) (x : ℕ) → nat_lt 0 x ≡ t → ◌≡◌ {A = ℕ} 1 (cond t 1 0) → 0 < x
    by true x e f = ltb-true 0 x e
    by false x e f = absurd (omega arith)

    some : All (λ level. 1 ≤ level) h.levels
    some c d below =
        let within : c < n = omega (arith, h.width) in
        let set_bit : bit_at placed c ≡ 1 = ap (λ (x : ℕ). bit_at x c) all ∙ bit_at_not w64 0 c (omega arith) (omega arith) ∙ ap (λ (x : ℕ). 1 - x) (bit_at-zero c) in
        omega (arith, get_or_default h.levels c d 0 below, by (nat_lt 0 (slice_index h.levels c)) (slice_index h.levels c) refl (sym set_bit ∙ h.mask c within))

    above : (marks : List Mark) (c : ℕ) → length marks ≡ n → mark_at marks c ≡ L → (0 < slice_index h.levels c → (w : PlacedWin h.levels marks) × (slice_index h.levels w.it < slice_index h.levels c)) → WinAbove h.levels marks c
    above marks c long loss g =
        let within = mark_at-within marks c (λ even. let no : L ≡ E = sym loss ∙ even in cc) in
        let w = g (some c 0 (omega (arith, h.width))) in
        record { it = w.0.it; within = w.0.within; win = w.0.win; above = w.1 }

-- Where each constraint that is not placed is blocked, and one is left, no ranking keeps the conditions.
pub hopeless-full : (n : ℕ) (set : List (List Mark)) (placed : ℕ) → placed < 2 ^ 64 → All (λ marks. length marks ≡ n) set → n ≤ 64 → placed ≢ 18446744073709551615
    → ((c : ℕ) → c < 64 → bit_at placed c ≡ 0 → is_blocked (levels_of placed) set c ≡ true) → no_ranking_keeps n set ≡ true
hopeless-full n set placed small widths few some blocked =
    hopeless-blocked n set (levels_of placed) left.0 (within_n left.0 (blocked left.0 left.1 left.2)) (level-bit placed left.0 left.1 ∙ left.2)
    (λ d below none. blocked d (omega arith) (sym (level-bit placed d (omega arith)) ∙ none))
  where
    within_n : (c : ℕ) → is_blocked (levels_of placed) set c ≡ true → c < n
    within_n c h =
        let o = blocked-open (levels_of placed) set c h in
        omega (arith, mark_at-within (get_or set o.at []) c (λ even. let no : L ≡ E = sym o.loss ∙ even in cc), widths o.at [] o.within)

    left : (c : ℕ) × (c < 64) × (bit_at placed c ≡ 0)
    left =
        let k : ℕ = trailing_zeros w64 (bit_not w64 placed) in
        let h : (k < 64) × (bit_at (bit_not w64 placed) k ≡ 1) × ((i : ℕ) → i < k → bit_at (bit_not w64 placed) i ≡ 0) = bit_at-trailing_zeros w64 (bit_not w64 placed) (omega (arith, some, small)) (omega (arith, small)) in
        (k, h.0, omega (arith, h.1, bit_at_not w64 placed k small h.0, bit_at-lt placed k))

-- what is told by the bit of a constraint that is blocked
pub blocked-bit : (t : Bool) (x : ℕ) → x ≡ 1 → x ≡ cond t 1 0 → t ≡ true
blocked-bit true x one e = refl
blocked-bit false x one e = absurd (omega arith)

-- Where a round sets no bit, each constraint that is not placed is blocked.
pub idle-blocked : (placed blocked : ℕ) → blocked < 2 ^ 64 → bit_or placed (bit_not w64 blocked) ≡ placed → (c : ℕ) → c < 64 → bit_at placed c ≡ 0 → bit_at blocked c ≡ 1
idle-blocked placed blocked low idle c within none =
    let both : bit_at placed c ≡ max (bit_at placed c) (bit_at (bit_not w64 blocked) c) = ap (λ (x : ℕ). bit_at x c) (sym idle) ∙ bit_at_or placed (bit_not w64 blocked) c in
    omega (arith, both, none, bit_at_not w64 blocked c low within, bit_at-lt blocked c)

-- Where a round sets no bit though one is left, no ranking keeps the conditions.
pub hopeless-placed : (n : ℕ) (set : List (List Mark)) (placed blocked : ℕ) → n ≤ 64 → placed < 2 ^ 64 → blocked < 2 ^ 64 → All (λ marks. length marks ≡ n) set
    → ((c : ℕ) → bit_at blocked c ≡ cond (is_blocked (levels_of placed) set c) 1 0) → placed ≢ 18446744073709551615 → bit_or placed (bit_not w64 blocked) ≡ placed → no_ranking_keeps n set ≡ true
hopeless-placed n set placed blocked few small low widths b some idle =
    hopeless-full n set placed small widths few some (λ c within none. blocked-bit (is_blocked (levels_of placed) set c) (bit_at blocked c) (idle-blocked placed blocked low idle c within none) (b c))
