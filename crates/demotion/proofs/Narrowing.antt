-- Shorter and shorter fronts of some conditions, beside others.
use Rattle.std.proofs.Common.{◌≡◌, ◌≢◌, ℕ, ◌+◌, ◌-◌, ◌^◌, ◌<◌, ◌≤◌, max, not, ◌&&◌, ◌||◌, List, ◌++◌, Bool, true, false, arith, refl, sym, ap, ◌∙◌, cond, length, take, take-take, take_all, get_or, inl, inr}
use Rattle.std.specs.Prelude.{All, bit_or}
use Rattle.std.specs.Int.{bit_at, bit_not, w64}
use Rattle.std.proofs.lemmas.Bool.{cases_lt}
use Rattle.std.proofs.lemmas.Bool.Decides.{eqb_tells}
use Rattle.std.proofs.lemmas.List.{length-take-le}
use Rattle.std.proofs.lemmas.List.Elements.{All-append, All-take}
use Rattle.std.proofs.lemmas.List.Folds.{list_any-append, list_any_more}
use Rattle.std.proofs.lemmas.Nat.Bits.{bit_at-lt, bit_at_or, bit_at_not, bit_at-zero, same_from_bits_below}
use Rattle.ot_theory.specs.declared.Mark.{Mark}
use Rattle.ot_theory.specs.Conditions.{is_loss, mark_at}
use Rattle.ot_theory.specs.Demotion.{is_blocked, is_closed}
use Rattle.ot_theory.specs.Refutations.{no_ranking_keeps}
use Rattle.demotion.specs.Placed.{levels_of}
use Rattle.demotion.proofs.Masked.{max_bits}
use Rattle.demotion.proofs.Stuck.{IsPlaced, IsPlaced-none, IsPlaced-more, IsPlaced-front, blocked-bit, hopeless-full, idle-blocked, kept-placed}

-- what is blocked before, and by the conditions so far, with one more
pub front-more : (placed before blocked losses k : ℕ) (set : List (List Mark)) (d : List Mark) → k < length set → ((c : ℕ) → bit_at blocked c ≡ max (bit_at before c) (cond (is_blocked (levels_of placed) (take k set) c) 1 0))
    → ((c : ℕ) → bit_at losses c ≡ cond (not (is_closed (levels_of placed) (get_or set k d)) && is_loss (mark_at (get_or set k d) c)) 1 0)
    → (c : ℕ) → bit_at (bit_or blocked losses) c ≡ max (bit_at before c) (cond (is_blocked (levels_of placed) (take (k + 1) set) c) 1 0)
front-more placed before blocked losses k set d within h q c =
    let more = list_any_more (λ m. not (is_closed (levels_of placed) m) && is_loss (mark_at m c)) set k d within in
    bit_at_or blocked losses c ∙ rw (h c, q c, more) (by (bit_at before c) (is_blocked (levels_of placed) (take k set) c) (not (is_closed (levels_of placed) (get_or set k d)) && is_loss (mark_at (get_or set k d) c)))
  where
    by : (x : ℕ) (a b : Bool) → max (max x (cond a 1 0)) (cond b 1 0) ≡ max x (cond (a || b) 1 0)
    by x true true = omega arith
    by x true false = omega arith
    by x false true = omega arith
    by x false false = omega arith

-- where all are placed or blocked, one that is not placed is blocked
pub full-bit : (placed blocked c : ℕ) → bit_or placed blocked ≡ 18446744073709551615 → c < 64 → bit_at placed c ≡ 0 → bit_at blocked c ≡ 1
full-bit placed blocked c all within none =
    let set_bit : bit_at (bit_or placed blocked) c ≡ 1 = ap (λ (x : ℕ). bit_at x c) all ∙ bit_at_not w64 0 c (omega arith) (omega arith) ∙ ap (λ (x : ℕ). 1 - x) (bit_at-zero c) in
    omega (arith, set_bit, bit_at_or placed blocked c, bit_at-lt blocked c)

-- A round places a constraint, where one is neither placed nor blocked.
pub places-more : (placed blocked : ℕ) → placed < 2 ^ 64 → blocked < 2 ^ 64 → bit_or placed blocked < 2 ^ 64 → bit_or placed blocked ≢ 18446744073709551615 → bit_or placed (bit_not w64 blocked) ≢ placed
places-more placed blocked small low both free idle = free (same_from_bits_below 64 (bit_or placed blocked) 18446744073709551615 both (omega arith) (λ c within. each c within ∙ sym (all c within)))
  where
    all : (c : ℕ) → c < 64 → bit_at 18446744073709551615 c ≡ 1
    all c within = bit_at_not w64 0 c (omega arith) (omega arith) ∙ ap (λ (x : ℕ). 1 - x) (bit_at-zero c)

    each : (c : ℕ) → c < 64 → bit_at (bit_or placed blocked) c ≡ 1
    each c within = elim (eqb_tells (bit_at placed c) 0) [
      | inl none ↦ omega (arith, bit_at_or placed blocked c, none.1, idle-blocked placed blocked low idle c within none.1)
      | inr some ↦ omega (arith, bit_at_or placed blocked c, some.1, bit_at-lt placed c, bit_at-lt blocked c)
    ]

-- No ranking keeps the others where they block each constraint that is not placed.
pub hopeless-others : (n : ℕ) (others : List (List Mark)) (placed blocked : ℕ) → n ≤ 64 → placed < 2 ^ 64 → All (λ marks. length marks ≡ n) others → placed ≢ 18446744073709551615
    → ((c : ℕ) → bit_at blocked c ≡ cond (is_blocked (levels_of placed) others c) 1 0) → bit_or placed blocked ≡ 18446744073709551615 → no_ranking_keeps n others ≡ true
hopeless-others n others placed blocked few small widths some b all =
    hopeless-full n others placed small widths few some (λ c within none. blocked-bit (is_blocked (levels_of placed) others c) (bit_at blocked c) (full-bit placed blocked c all within none) (b c))

-- what the others and a front block
joined : (placed : ℕ) (others front : List (List Mark)) (x b c : ℕ) → x ≡ max b (cond (is_blocked (levels_of placed) front c) 1 0) → b ≡ cond (is_blocked (levels_of placed) others c) 1 0
    → x ≡ cond (is_blocked (levels_of placed) (others ++ front) c) 1 0
joined placed others front x b c e f =
    e ∙ ap (λ (y : ℕ). max y (cond (is_blocked (levels_of placed) front c) 1 0)) f ∙ max_bits (is_blocked (levels_of placed) others c) (is_blocked (levels_of placed) front c)
    ∙ ap (λ (t : Bool). cond t 1 0) (sym (list_any-append (λ m. not (is_closed (levels_of placed) m) && is_loss (mark_at m c)) others front))

-- The constraints of the mask may be placed beside the first conditions, and no ranking keeps these with one more.
pub record IsNarrowed (n : ℕ) (others conditions : List (List Mark)) (placed last : ℕ) : Type 0 where
  pub placed_so : IsPlaced n (others ++ take last conditions) placed
  pub within : last ≤ length conditions
  pub none : last < length conditions → no_ranking_keeps n (others ++ take (last + 1) conditions) ≡ true

pub IsNarrowed-start : (n : ℕ) (others conditions : List (List Mark)) (last : ℕ) → last ≡ length conditions → IsNarrowed n others conditions 0 last
IsNarrowed-start n others conditions last all = record {
  placed_so = IsPlaced-none n (others ++ take last conditions);
  within = omega arith;
  none = λ short. absurd (omega arith);
}

pub IsNarrowed-more : (n : ℕ) (others conditions slice : List (List Mark)) (placed before blocked last front : ℕ) → n ≤ 64 → All (λ marks. length marks ≡ n) others → All (λ marks. length marks ≡ n) conditions
    → placed < 2 ^ 64 → blocked < 2 ^ 64 → placed ≢ 18446744073709551615 → slice ≡ take last conditions → ((c : ℕ) → bit_at before c ≡ cond (is_blocked (levels_of placed) others c) 1 0) → front ≤ length slice
    → ((c : ℕ) → bit_at blocked c ≡ max (bit_at before c) (cond (is_blocked (levels_of placed) (take front slice) c) 1 0))
    → (front < length slice → (c : ℕ) → c < 64 → bit_at placed c ≡ 0 → max (bit_at before c) (cond (is_blocked (levels_of placed) (take (front + 1) slice) c) 1 0) ≡ 1)
    → IsNarrowed n others conditions placed last → IsNarrowed n others conditions (bit_or placed (bit_not w64 blocked)) front
IsNarrowed-more n others conditions slice placed before blocked last front few wide widths small low some those b short bits full h = record {
  placed_so = IsPlaced-more n (others ++ take front conditions) placed blocked few small low (widths_of front)
      (λ c. joined placed others (take front conditions) (bit_at blocked c) (bit_at before c) c (rw (shorter front less) at (bits c)) (b c))
      (IsPlaced-front n others conditions last front placed less h.placed_so);
  within = omega (arith, less, h.within);
  none = λ below. elim (cases_lt front last) [
    | inl fewer ↦
        hopeless-full n (others ++ take (front + 1) conditions) placed small (widths_of (front + 1)) few some
        (λ c within none. blocked-bit (is_blocked (levels_of placed) (others ++ take (front + 1) conditions) c) 1 refl
        (joined placed others (take (front + 1) conditions) 1 (bit_at before c) c (sym (rw (shorter (front + 1) (omega arith)) at (full (omega (arith, long)) c within none))) (b c)))
    | inr same ↦ let e : front ≡ last = omega (arith, long) in rw e (h.none (omega arith))
  ];
}
  where
    long : length slice ≡ last
    long = ap (λ (l : List (List Mark)). length l) those ∙ length-take-le last conditions h.within

    less : front ≤ last
    less = omega (arith, short, long)

    shorter : (k : ℕ) → k ≤ last → take k slice ≡ take k conditions
    shorter k less = ap (take k) those ∙ take-take k last conditions less

    widths_of : (k : ℕ) → All (λ marks. length marks ≡ n) (others ++ take k conditions)
    widths_of k = All-append (λ marks. length marks ≡ n) others (take k conditions) wide (All-take (λ marks. length marks ≡ n) k conditions widths)

-- Where all are placed, some ranking keeps the front, so it is not the whole.
pub IsNarrowed-kept : (n : ℕ) (others conditions : List (List Mark)) (placed last : ℕ) → n ≤ 64 → All (λ marks. length marks ≡ n) others → All (λ marks. length marks ≡ n) conditions → placed ≡ 18446744073709551615
    → IsNarrowed n others conditions placed last → no_ranking_keeps n (others ++ take last conditions) ≡ false
IsNarrowed-kept n others conditions placed last few wide widths all h =
    kept-placed n (others ++ take last conditions) placed few (All-append (λ marks. length marks ≡ n) others (take last conditions) wide (All-take (λ marks. length marks ≡ n) last conditions widths)) all h.placed_so

pub IsNarrowed-short : (n : ℕ) (others conditions : List (List Mark)) (placed last : ℕ) → no_ranking_keeps n (others ++ conditions) ≡ true → no_ranking_keeps n (others ++ take last conditions) ≡ false
    → IsNarrowed n others conditions placed last → last < length conditions
IsNarrowed-short n others conditions placed last hopeless kept h = elim (cases_lt last (length conditions)) [
  | inl short ↦ short
  | inr whole ↦
      let all : take last conditions ≡ conditions = take_all last conditions whole in
      let no : true ≡ false = sym hopeless ∙ ap (λ (l : List (List Mark)). no_ranking_keeps n (others ++ l)) (sym all) ∙ kept in
      absurd (cc)
]
