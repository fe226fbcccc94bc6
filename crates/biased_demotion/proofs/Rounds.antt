-- Biased demotion in rounds: its strata are those of the rule, they satisfy the conditions, and where it stops too early no
-- ranking keeps them.
use Rattle.std.proofs.Common.{◌≡◌, ◌≢◌, ℕ, zero, suc, ◌+◌, ◌^◌, ◌<◌, ◌≤◌, max, List, [], ◌∷◌, Bool, true, false, not, ◌&&◌, ◌==◌, cond, length, map, get_or, slice_index, arith, refl, sym, ap, ◌∙◌, inl, inr}
use Rattle.std.specs.Prelude.{All, Contains, nat_lt, filter, fold}
use Rattle.std.proofs.lemmas.Bool.{cases_lt, cases_Bool, and_parts, and_from, lt-ltb, le-ltb, ne_eqb, eq-eqb, not-true}
use Rattle.std.proofs.lemmas.Bool.Decides.{eqb_tells}
use Rattle.std.proofs.lemmas.List.{get_or_past, get_or-map, length-map, ext_get_or}
use Rattle.std.proofs.lemmas.List.FromFn.{get_or-map-range_with_len}
use Rattle.std.proofs.lemmas.List.Folds.{list_any_at}
use Rattle.ot_theory.specs.declared.Mark.{Mark}
use Rattle.ot_theory.specs.declared.Mark.TheVariants.{L, E}
use Rattle.ot_theory.specs.Rankings.{numbers_below}
use Rattle.ot_theory.specs.Conditions.{mark_at, is_loss}
use Rattle.ot_theory.specs.Hierarchies.{Satisfies, in_stratum}
use Rattle.ot_theory.specs.Demotion.{is_closed, is_blocked, level_after}
use Rattle.ot_theory.specs.Refutations.{no_ranking_keeps}
use Rattle.ot_theory.proofs.Strata.{mark_at-within, WinAbove, satisfied-WinAbove}
use Rattle.ot_theory.proofs.Members.{filter_below}
use Rattle.ot_theory.proofs.Demotion.{PlacedWin, IsGuarded, closed-placed, hopeless-blocked}
use Rattle.demotion.specs.Placed.{has_bit}
use Rattle.std.specs.Int.{bit_at}
use Rattle.std.proofs.lemmas.Nat.Bits.{bit_at-lt}
use Rattle.biased_demotion.proofs.Shown.{Shows-some}
use Rattle.biased_demotion.proofs.Freed.{own_bit}
use Rattle.biased_demotion.specs.Biased.{is_free, IsNext, placed_above, IsBiased}

-- After r rounds the numbers are at most r, each L at a placed constraint has a W above it, and each stratum so far is the
-- next one over what is placed above it.
pub record AreBiasedRounds (faith : List Bool) (set : List (List Mark)) (r : ℕ) (levels : List ℕ) : Type 0 where
  pub width : length levels ≡ length faith
  pub within : (c : ℕ) → slice_index levels c ≤ r
  pub guarded : All (IsGuarded levels) set
  pub each : (s : ℕ) → 1 ≤ s → s ≤ r → IsNext faith (placed_above levels s) set (in_stratum levels s)

pub AreBiasedRounds-none : (faith : List Bool) (set : List (List Mark)) (levels : List ℕ) → length levels ≡ length faith → All (λ level. level ≡ 0) levels → AreBiasedRounds faith set 0 levels
AreBiasedRounds-none faith set levels width unplaced = record {
  width = width;
  within = λ c. omega (arith, none c);
  guarded = λ k m b d loss placed. absurd (omega (arith, none d));
  each = λ s low high. absurd (omega arith);
}
  where
    none : (c : ℕ) → slice_index levels c ≡ 0
    none c = elim (cases_lt c (length levels)) [ inl below ↦ unplaced c 0 below | inr past ↦ get_or_past levels c 0 past ]

-- a round: the constraints of a stratum, which are free, get this number
pub record IsBiasedRound (faith : List Bool) (set : List (List Mark)) (given stratum : ℕ) (old new : List ℕ) : Type 0 where
  pub long : length old ≡ length faith
  pub same : length new ≡ length old
  pub free : (c : ℕ) → has_bit stratum c ≡ true → (c < length faith) × (is_free old set c ≡ true)
  pub each : (c : ℕ) → c < length new → slice_index new c ≡ level_after (slice_index old c) (not (has_bit stratum c)) given

-- what a round does to a constraint
data Change (set : List (List Mark)) (given stratum : ℕ) (old new : List ℕ) (c : ℕ) : Type 0 where
  Kept : has_bit stratum c ≡ false → slice_index new c ≡ slice_index old c → Change set given stratum old new c
  Given : has_bit stratum c ≡ true → slice_index old c ≡ 0 → is_blocked old set c ≡ false → slice_index new c ≡ given → Change set given stratum old new c

left_out : (t : Bool) (x given : ℕ) → cond (t && not true) given x ≡ x
left_out true x given = refl
left_out false x given = refl

change_of : (faith : List Bool) (set : List (List Mark)) (given stratum : ℕ) (old new : List ℕ) → IsBiasedRound faith set given stratum old new → (c : ℕ) → Change set given stratum old new c
change_of faith set given stratum old new round c = elim (cases_Bool (has_bit stratum c)) [
  | inl bit ↦
      let f = round.free c bit in
      let parts = and_parts (slice_index old c == 0) (not (is_blocked old set c)) f.1 in
      let none : slice_index old c ≡ 0 = zero_of (slice_index old c) parts.0 in
      Given bit none (not-true _ parts.1) (round.each c (omega (arith, f.0, round.same, round.long)) ∙ rw (bit, none) refl)
  | inr bit ↦ Kept bit (elim (cases_lt c (length new)) [
    | inl below ↦ round.each c below ∙ ap (λ (t : Bool). level_after (slice_index old c) (not t) given) bit ∙ left_out (slice_index old c == 0) (slice_index old c) given
    | inr past ↦ get_or_past new c 0 past ∙ sym (get_or_past old c 0 (omega (arith, round.same)))
  ])
]
  where
    zero_of : (x : ℕ) → (x == 0) ≡ true → x ≡ 0
    zero_of x e = elim (eqb_tells x 0) [
      | inl same ↦ same.1
      | inr other ↦ let no : true ≡ false = sym e ∙ other.0 in absurd (cc)
    ]

free_closed : (levels : List ℕ) (set : List (List Mark)) (c k : ℕ) (d : List Mark) → k < length set → is_blocked levels set c ≡ false → mark_at (get_or set k d) c ≡ L → is_closed levels (get_or set k d) ≡ true
free_closed levels set c k d b free loss = elim (cases_Bool (is_closed levels (get_or set k d))) [
  | inl closed ↦ closed
  | inr opened ↦
      let blocked : is_blocked levels set c ≡ true = list_any_at (λ marks. not (is_closed levels marks) && is_loss (mark_at marks c)) set k d b (and_from _ _ (ap not opened) (ap is_loss loss)) in
      absurd (cc)
]

at_most_all : (xs : List ℕ) (m r : ℕ) → m ≤ r → ((k : ℕ) → get_or xs k 0 ≤ r) → fold max m xs ≤ r
at_most_all [] m r low h = low
at_most_all (x ∷ xs) m r low h = at_most_all xs (max m x) r (omega (arith, h zero)) (λ k. h (suc k))

-- what a number counts for that is cut off at a stratum
cut_above : (s level : ℕ) → s ≤ level → cond (nat_lt level s) level 0 ≡ 0
cut_above s level low = rw (le-ltb level s low) refl

cut_below : (s level : ℕ) → level < s → cond (nat_lt level s) level 0 ≡ level
cut_below s level low = rw (lt-ltb level s low) refl

cut_none : (t : Bool) → ◌≡◌ {A = ℕ} (cond t 0 0) 0
cut_none true = refl
cut_none false = refl

-- of each constraint, that it is not in the stratum
abbrev pub left_by : ℕ → List Bool
left_by stratum = map (λ c. not (has_bit stratum c)) (numbers_below 64)

pub left_flag : (stratum c : ℕ) → c < 64 → get_or (left_by stratum) c false ≡ not (has_bit stratum c)
left_flag stratum c within = get_or-map-range_with_len (λ d. not (has_bit stratum d)) 0 64 c c false within (omega arith)

-- ---- one round more
module _ (faith : List Bool) (set : List (List Mark)) (r stratum : ℕ) (old new : List ℕ) (round : IsBiasedRound faith set (r + 1) stratum old new) (h : AreBiasedRounds faith set r old) where
  change : (c : ℕ) → Change set (r + 1) stratum old new c
  change = change_of faith set (r + 1) stratum old new round

  kept : (c : ℕ) → 0 < slice_index old c → slice_index new c ≡ slice_index old c
  kept c placed = elim (change c) [
    | Kept bit e ↦ e
    | Given bit z f e ↦ absurd (omega arith)
  ]

  abbrev moved : (marks : List Mark) → PlacedWin old marks → PlacedWin new marks
  moved marks w = record { it = w.it; within = w.within; win = w.win; placed = omega (arith, kept w.it w.placed, w.placed) }

  placed_above-same : (s : ℕ) → s ≤ r + 1 → placed_above new s ≡ placed_above old s
  placed_above-same s high =
      let f : ℕ → ℕ = λ level. cond (nat_lt level s) level 0 in
      ext_get_or 0 (map f new) (map f old) (length-map new f ∙ round.same ∙ sym (length-map old f)) (λ i b.
      let below : i < length new = omega (arith, b, length-map new f) in
      get_or-map f new i 0 0 below
      ∙ elim (change i) [
        | Kept bit e ↦ ap f e
        | Given bit z free e ↦ ap f e ∙ cut_above s (r + 1) high ∙ sym (ap f z ∙ cut_none (nat_lt 0 s))
      ]
      ∙ sym (get_or-map f old i 0 0 (omega (arith, below, round.same))))

  placed_above-now : placed_above new (r + 1) ≡ old
  placed_above-now =
      let f : ℕ → ℕ = λ level. cond (nat_lt level (r + 1)) level 0 in
      ext_get_or 0 (map f new) old (length-map new f ∙ round.same) (λ i b.
      get_or-map f new i 0 0 (omega (arith, b, length-map new f))
      ∙ elim (change i) [
        | Kept bit e ↦ ap f e ∙ cut_below (r + 1) (slice_index old i) (omega (arith, h.within i))
        | Given bit z free e ↦ ap f e ∙ cut_above (r + 1) (r + 1) (omega arith) ∙ sym z
      ])

  in_stratum-same : (s : ℕ) → 1 ≤ s → s ≤ r → in_stratum new s ≡ in_stratum old s
  in_stratum-same s low high =
      filter_below (λ c. slice_index new c == s) (λ c. slice_index old c == s) 0 (length new) (λ c b. elim (change c) [
        | Kept bit e ↦ ap (λ (x : ℕ). x == s) e
        | Given bit z free e ↦ ap (λ (x : ℕ). x == s) e ∙ ne_eqb (r + 1) s (λ same. omega arith) ∙ sym (ap (λ (x : ℕ). x == s) z ∙ ne_eqb 0 s (λ same. omega arith))
      ])
      ∙ ap (λ (n : ℕ). filter (λ c. slice_index old c == s) (numbers_below n)) round.same

  in_stratum-now : in_stratum new (r + 1) ≡ filter (has_bit stratum) (numbers_below (length faith))
  in_stratum-now =
      filter_below (λ c. slice_index new c == r + 1) (has_bit stratum) 0 (length new) (λ c b. elim (change c) [
        | Kept bit e ↦ ap (λ (x : ℕ). x == r + 1) e ∙ ne_eqb (slice_index old c) (r + 1) (λ same. omega (arith, h.within c)) ∙ sym bit
        | Given bit z free e ↦ ap (λ (x : ℕ). x == r + 1) e ∙ eq-eqb (r + 1) (r + 1) refl ∙ sym bit
      ])
      ∙ ap (λ (n : ℕ). filter (has_bit stratum) (numbers_below n)) (round.same ∙ round.long)

  pub AreBiasedRounds-more : IsNext faith old set (filter (has_bit stratum) (numbers_below (length faith))) → AreBiasedRounds faith set (r + 1) new
  AreBiasedRounds-more next = record {
    width = round.same ∙ h.width;
    within = λ c. elim (change c) [
      | Kept bit e ↦ omega (arith, e, h.within c)
      | Given bit z free e ↦ omega (arith, e)
    ];
    guarded = λ k m b d loss placed. elim (change d) [
      | Kept bit e ↦ let g = h.guarded k m b d loss (omega (arith, e, placed)) in (moved (get_or set k m) g.0, omega (arith, g.1, e, kept g.0.it g.0.placed))
      | Given bit z free e ↦
          let w = closed-placed old (get_or set k m) (free_closed old set d k m b free loss) in
          (moved (get_or set k m) w, omega (arith, e, h.within w.it, kept w.it w.placed))
    ];
    each = λ s low high. elim (cases_lt r s) [
      | inl last ↦ let now : s ≡ r + 1 = omega arith in rw now (rw (placed_above-now, in_stratum-now) next)
      | inr earlier ↦ rw (placed_above-same s (omega arith), in_stratum-same s low earlier) (h.each s low earlier)
    ];
  }

-- ---- where all constraints are placed
pub IsBiased-rounds : (faith : List Bool) (set : List (List Mark)) (r : ℕ) (levels : List ℕ) → AreBiasedRounds faith set r levels → All (λ level. 1 ≤ level) levels → IsBiased faith set levels
IsBiased-rounds faith set r levels h all = record {
  width = h.width;
  placed = all;
  each = λ s low high. h.each s low (omega (arith, high, at_most_all levels 0 r (omega arith) h.within));
}

pub Satisfies-rounds : (faith : List Bool) (set : List (List Mark)) (r : ℕ) (levels : List ℕ) → All (λ marks. length marks ≡ length faith) set → AreBiasedRounds faith set r levels → All (λ level. 1 ≤ level) levels → Satisfies (length faith) set levels
Satisfies-rounds faith set r levels widths h all = record {
  width = h.width;
  from_one = all;
  each = λ k d b. satisfied-WinAbove levels (get_or set k d) (λ c loss. above (get_or set k d) c (widths k d b) loss (h.guarded k d b c loss));
}
  where
    above : (marks : List Mark) (c : ℕ) → length marks ≡ length faith → mark_at marks c ≡ L → (0 < slice_index levels c → (w : PlacedWin levels marks) × (slice_index levels w.it < slice_index levels c)) → WinAbove levels marks c
    above marks c width loss g =
        let within = mark_at-within marks c (λ even. let no : L ≡ E = sym loss ∙ even in cc) in
        let w = g (all c 0 (omega (arith, h.width))) in
        record { it = w.0.it; within = w.0.within; win = w.0.win; above = w.1 }

-- ---- where one is left and none is free
pub hopeless-idle : (n : ℕ) (set : List (List Mark)) (levels : List ℕ) → length levels ≡ n → ((c : ℕ) → c < n → is_free levels set c ≡ false) → Contains levels 0 → no_ranking_keeps n set ≡ true
hopeless-idle n set levels long idle left = hopeless-blocked n set levels left.0 (omega (arith, left.1, long)) left.2 (λ d below none. blocked d none (idle d below))
  where
    by : (t : Bool) → not t ≡ false → t ≡ true
    by true e = refl
    by false e = absurd (cc)

    blocked : (d : ℕ) → slice_index levels d ≡ 0 → is_free levels set d ≡ false → is_blocked levels set d ≡ true
    blocked d none e = by (is_blocked levels set d) (sym (ap (λ (x : ℕ). (x == 0) && not (is_blocked levels set d)) none) ∙ e)

-- A round that has a constraint places one.
pub some_placed : (faith : List Bool) (set : List (List Mark)) (given stratum : ℕ) (old new : List ℕ) → 0 < given → stratum < 2 ^ 64 → stratum ≢ 0 → IsBiasedRound faith set given stratum old new → new ≢ old
some_placed faith set given stratum old new positive small some round same =
    let it = Shows-some stratum (has_bit stratum) small (λ c. own_bit (bit_at stratum c) (bit_at-lt stratum c)) some in
    placed it.it it.passes (change_of faith set given stratum old new round it.it)
  where
    placed : (c : ℕ) → has_bit stratum c ≡ true → Change set given stratum old new c → ⊥
    placed c bit (Kept out e) = absurd (cc)
    placed c bit (Given put z free e) = absurd (omega (arith, positive, z, e, ap (λ (levels : List ℕ). slice_index levels c) same))
