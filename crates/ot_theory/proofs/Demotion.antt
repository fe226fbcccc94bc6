-- Demotion in rounds gives the least hierarchy, or shows that no ranking keeps the conditions.
use Rattle.std.proofs.Common.{◌≡◌, ◌≢◌, ◌⊎◌, ℕ, zero, suc, ◌+◌, ◌<◌, ◌≤◌, List, [], Bool, true, false, not, ◌&&◌, ◌==◌, arith, sym, ◌∙◌, ap, inl, inr, length, slice_index, get_or}
use Rattle.std.specs.Prelude.{All, Contains, nat_lt}
use Rattle.std.specs.List.{list_all, list_any}
use Rattle.std.proofs.lemmas.Bool.{ltb-true, lt-ltb, cases_lt, and_parts, and_from, not-true, cases_Bool}
use Rattle.std.proofs.lemmas.Bool.Decides.{eqb_tells, leb_tells, nat_tests}
use Rattle.std.proofs.lemmas.List.{get_or_past, get_or_read}
use Rattle.std.proofs.lemmas.List.Folds.{Any-from_list_any, list_any_at}
use Rattle.std.proofs.lemmas.List.Sums.{AllPass-from_list_all}
use Rattle.ot_theory.specs.declared.Mark.{Mark}
use Rattle.ot_theory.specs.declared.Mark.TheVariants.{W, L, E}
use Rattle.ot_theory.specs.Rankings.{count_of, IsRanking, rankings}
use Rattle.ot_theory.specs.Conditions.{keeps, mark_at, is_win, is_loss}
use Rattle.ot_theory.specs.Hierarchies.{Satisfies, IsLeastHierarchy}
use Rattle.ot_theory.specs.Demotion.{is_closed, is_blocked, level_after, StaysOpen}
pub use Rattle.ot_theory.specs.Demotion.{PlacedWin, IsGuarded}
use Rattle.ot_theory.specs.Refutations.{no_ranking_keeps}
use Rattle.ot_theory.proofs.Enumeration.{counted, ranking-found, ranking-within}
use Rattle.ot_theory.proofs.Strata.{any-range, range-any, mark_at-within, place_of, below-wins, WinAbove, satisfied-WinAbove, is_win-true, is_loss-true}
use Rattle.ot_theory.proofs.Orders.{kept-satisfied}
use Rattle.ot_theory.proofs.Hopeless.{guarded-keeps}
use Rattle.ot_theory.proofs.Parts.{loss-beside}

abbrev is_placed_win : List ℕ → List Mark → ℕ → Bool
is_placed_win levels marks c = is_win (mark_at marks c) && nat_lt 0 (slice_index levels c)

pub closed-placed : (levels : List ℕ) (marks : List Mark) → is_closed levels marks ≡ true → PlacedWin levels marks
closed-placed levels marks h =
    let r = any-range (is_placed_win levels marks) 0 (length marks) h in
    record {
      it = r.it;
      within = omega (arith, r.below);
      win = is_win-true _ (and_parts _ _ r.passes).0;
      placed = ltb-true _ _ (and_parts _ _ r.passes).1;
    }

-- in an open condition no constraint with W is placed
pub open-unplaced : (levels : List ℕ) (marks : List Mark) (w : ℕ) → is_closed levels marks ≡ false → mark_at marks w ≡ W → slice_index levels w ≡ 0
open-unplaced levels marks w h win = elim (cases_lt 0 (slice_index levels w)) [
  | inl placed ↦
      let within = mark_at-within marks w (λ even. let no : W ≡ E = sym win ∙ even in cc) in
      let closed : is_closed levels marks ≡ true = range-any (is_placed_win levels marks) 0 (length marks) w (omega arith) (omega arith) (and_from _ _ (ap is_win win) (lt-ltb _ _ placed)) in
      absurd (cc)
  | inr none ↦ omega arith
]

-- an open condition with L at a blocked constraint
pub record OpenLoss (levels : List ℕ) (set : List (List Mark)) (c : ℕ) : Type 0 where
  pub at : ℕ
  pub within : at < length set
  pub opened : is_closed levels (get_or set at []) ≡ false
  pub loss : mark_at (get_or set at []) c ≡ L

pub blocked-open : (levels : List ℕ) (set : List (List Mark)) (c : ℕ) → is_blocked levels set c ≡ true → OpenLoss levels set c
blocked-open levels set c h =
    let a = Any-from_list_any (λ marks. not (is_closed levels marks) && is_loss (mark_at marks c)) set h in
    let same : a.1 ≡ get_or set a.0 [] = get_or_read set a.0 a.1 a.2 (sym a.3) [] in
    let parts = and_parts _ _ a.4 in
    record {
      at = a.0;
      within = a.2;
      opened = rw (← same) (not-true _ parts.0);
      loss = rw (← same) (is_loss-true _ parts.1);
    }

-- no condition of a part that stays open is closed
abbrev pub KeepsOpen : ℕ → List (List Mark) → List ℕ → Type 0
KeepsOpen n set levels = (part : List ℕ) → StaysOpen n set part → All (λ k. is_closed levels (get_or set k []) ≡ false) part

-- so it is where no constraint is placed
pub KeepsOpen-none : (n : ℕ) (set : List (List Mark)) (levels : List ℕ) → ((c : ℕ) → slice_index levels c ≡ 0) → KeepsOpen n set levels
KeepsOpen-none n set levels none part s i d b = elim (cases_Bool (is_closed levels (get_or set (get_or part i d) []))) [
  | inl closed ↦ let w = closed-placed levels (get_or set (get_or part i d) []) closed in absurd (omega (arith, w.placed, none w.it))
  | inr opened ↦ opened
]

-- and it stays so where only free constraints are placed
pub KeepsOpen-free : (n : ℕ) (set : List (List Mark)) (old new : List ℕ) → All (λ marks. length marks ≡ n) set → ((c : ℕ) → 0 < slice_index new c → slice_index old c ≡ 0 → is_blocked old set c ≡ false) → KeepsOpen n set old → KeepsOpen n set new
KeepsOpen-free n set old new widths free h part s i d b = elim (cases_Bool (is_closed new (get_or set (get_or part i d) []))) [
  | inl closed ↦ absurd (shut (closed-placed new (get_or set (get_or part i d) []) closed))
  | inr opened ↦ opened
]
  where
    -- a constraint at which a condition of the part has W is blocked by another one of the part
    shut : PlacedWin new (get_or set (get_or part i d) []) → ⊥
    shut w =
        let marks : List Mark = get_or set (get_or part i d) [] in
        let none : slice_index old w.it ≡ 0 = open-unplaced old marks w.it (h part s i d b) w.win in
        let f = loss-beside n set part w.it i d s (omega (arith, w.within, widths (get_or part i d) [] (s.within i d b))) b w.win in
        let blocked : is_blocked old set w.it ≡ true =
        list_any_at (λ m. not (is_closed old m) && is_loss (mark_at m w.it)) set (get_or part f.at 0) [] (s.within f.at 0 f.within) (and_from _ _ (ap not (h part s f.at 0 f.within)) f.passes) in
        let other : is_blocked old set w.it ≡ false = free w.it w.placed none in
        cc

-- After r rounds the numbers are at most r and at most those of every hierarchy that satisfies the set, in which the
-- constraints that are not placed have greater numbers than r. Each L at a placed constraint has a W above it. A part that
-- stays open has no closed condition.
pub record AreRounds (n : ℕ) (set : List (List Mark)) (r : ℕ) (levels : List ℕ) : Type 0 where
  pub width : length levels ≡ n
  pub within : (c : ℕ) → slice_index levels c ≤ r
  pub least : (other : List ℕ) → Satisfies n set other → (c : ℕ) → slice_index levels c ≤ slice_index other c
  pub later : (other : List ℕ) → Satisfies n set other → (c : ℕ) → c < n → slice_index levels c ≡ 0 → r < slice_index other c
  pub guarded : All (IsGuarded levels) set
  pub stays : KeepsOpen n set levels

pub AreRounds-none : (n : ℕ) (set : List (List Mark)) (levels : List ℕ) → length levels ≡ n → All (λ level. level ≡ 0) levels → AreRounds n set 0 levels
AreRounds-none n set levels width unplaced = record {
  width = width;
  within = λ c. omega (arith, none c);
  least = λ other s c. omega (arith, none c);
  later = λ other s c below e. s.from_one c 0 (omega (arith, s.width));
  guarded = λ k m b d loss placed. absurd (omega (arith, none d));
  stays = KeepsOpen-none n set levels none;
}
  where
    none : (c : ℕ) → slice_index levels c ≡ 0
    none c = elim (cases_lt c (length levels)) [ inl below ↦ unplaced c 0 below | inr past ↦ get_or_past levels c 0 past ]

-- a round: the free ones of the constraints that are not placed get this number
pub record IsRound (set : List (List Mark)) (given : ℕ) (old new : List ℕ) : Type 0 where
  pub same : length new ≡ length old
  pub each : (c : ℕ) → c < length new → slice_index new c ≡ level_after (slice_index old c) (is_blocked old set c) given

-- what a round does to a constraint
data Change (set : List (List Mark)) (given : ℕ) (old new : List ℕ) (c : ℕ) : Type 0 where
  Kept : 0 < slice_index old c → slice_index new c ≡ slice_index old c → Change set given old new c
  Given : c < length new → slice_index old c ≡ 0 → is_blocked old set c ≡ false → slice_index new c ≡ given → Change set given old new c
  Left : slice_index old c ≡ 0 → is_blocked old set c ≡ true → slice_index new c ≡ 0 → Change set given old new c
  Past : length new ≤ c → slice_index new c ≡ 0 → Change set given old new c

pub level_kept : (level given : ℕ) (blocked : Bool) → level ≢ 0 → level_after level blocked given ≡ level
level_kept level given blocked h = grind (arith, nat_tests)

change_of : (set : List (List Mark)) (given : ℕ) (old new : List ℕ) → IsRound set given old new → (c : ℕ) → Change set given old new c
change_of set given old new round c = elim (leb_tells (length new) c) [
  | inl past ↦ Past past.1 (get_or_past new c 0 past.1)
  | inr below ↦ by below.1 (round.each c below.1) (eqb_tells (slice_index old c) 0) (cases_Bool (is_blocked old set c))
]
  where
    by : c < length new → slice_index new c ≡ level_after (slice_index old c) (is_blocked old set c) given → ((slice_index old c == 0) ≡ true) × (slice_index old c ≡ 0) ⊎ ((slice_index old c == 0) ≡ false) × (slice_index old c ≢ 0) → (is_blocked old set c ≡ true) ⊎ (is_blocked old set c ≡ false) → Change set given old new c
    by below e (inr other) b = Kept (omega (arith, other.1)) (e ∙ level_kept _ _ _ other.1)
    by below e (inl none) (inl blocked) = Left none.1 blocked (rw (none.1, blocked) at e)
    by below e (inl none) (inr free) = Given below none.1 free (rw (none.1, free) at e)

free-closed : (levels : List ℕ) (set : List (List Mark)) (c k : ℕ) (d : List Mark) → k < length set → is_blocked levels set c ≡ false → mark_at (get_or set k d) c ≡ L → is_closed levels (get_or set k d) ≡ true
free-closed levels set c k d b free loss = elim (cases_Bool (is_closed levels (get_or set k d))) [
  | inl closed ↦ closed
  | inr opened ↦
      let blocked : is_blocked levels set c ≡ true = list_any_at (λ marks. not (is_closed levels marks) && is_loss (mark_at marks c)) set k d b (and_from _ _ (ap not opened) (ap is_loss loss)) in
      absurd (cc)
]

pub AreRounds-more : (n : ℕ) (set : List (List Mark)) (r : ℕ) (old new : List ℕ) → All (λ marks. length marks ≡ n) set → IsRound set (r + 1) old new → AreRounds n set r old → AreRounds n set (r + 1) new
AreRounds-more n set r old new widths round h = record {
  width = round.same ∙ h.width;
  within = λ c. elim (change c) [
    | Kept p e ↦ omega (arith, e, h.within c)
    | Given below z f e ↦ omega (arith, e)
    | Left z b e ↦ omega (arith, e)
    | Past p e ↦ omega (arith, e)
  ];
  least = λ other s c. elim (change c) [
    | Kept p e ↦ omega (arith, e, h.least other s c)
    | Given below z f e ↦ omega (arith, e, h.later other s c (omega (arith, round.same, h.width)) z)
    | Left z b e ↦ omega (arith, e)
    | Past p e ↦ omega (arith, e)
  ];
  later = λ other s c below none. elim (change c) [
    | Kept p e ↦ absurd (omega arith)
    | Given below z f e ↦ absurd (omega arith)
    | Left z b e ↦
        let o = blocked-open old set c b in
        below-wins other (get_or set o.at []) c (r + 1) (s.each o.at [] o.within) o.loss
        (λ w win. omega (arith, h.later other s w (omega (arith, mark_at-within (get_or set o.at []) w (λ even. let no : W ≡ E = sym win ∙ even in cc), widths o.at [] o.within)) (open-unplaced old (get_or set o.at []) w o.opened win)))
    | Past p e ↦ absurd (omega arith)
  ];
  guarded = λ k m b d loss placed. elim (change d) [
    | Kept p e ↦ let g = h.guarded k m b d loss p in (moved (get_or set k m) g.0, omega (arith, g.1, e, kept g.0.it g.0.placed))
    | Given below z f e ↦
        let w = closed-placed old (get_or set k m) (free-closed old set d k m b f loss) in
        (moved (get_or set k m) w, omega (arith, e, h.within w.it, kept w.it w.placed))
    | Left z b e ↦ absurd (omega arith)
    | Past p e ↦ absurd (omega arith)
  ];
  stays = KeepsOpen-free n set old new widths (λ c placed none. elim (change c) [
    | Kept p e ↦ absurd (omega arith)
    | Given below z free e ↦ free
    | Left z b e ↦ absurd (omega arith)
    | Past p e ↦ absurd (omega arith)
  ]) h.stays;
}
  where
    change : (c : ℕ) → Change set (r + 1) old new c
    change = change_of set (r + 1) old new round

    kept : (c : ℕ) → 0 < slice_index old c → slice_index new c ≡ slice_index old c
    kept c placed = elim (change c) [
      | Kept p e ↦ e
      | Given below z f e ↦ absurd (omega arith)
      | Left z b e ↦ absurd (omega arith)
      | Past p e ↦ absurd (omega (arith, get_or_past old c 0 (omega (arith, round.same))))
    ]

    moved : (marks : List Mark) → PlacedWin old marks → PlacedWin new marks
    moved marks w = record { it = w.it; within = w.within; win = w.win; placed = omega (arith, kept w.it w.placed, w.placed) }

-- where all constraints are placed, the hierarchy is the least
pub IsLeastHierarchy-rounds : (n : ℕ) (set : List (List Mark)) (r : ℕ) (levels : List ℕ) → All (λ marks. length marks ≡ n) set → AreRounds n set r levels → All (λ level. 1 ≤ level) levels → IsLeastHierarchy n set levels
IsLeastHierarchy-rounds n set r levels widths h all = record {
  satisfying = record {
    width = h.width;
    from_one = all;
    each = λ k d b. satisfied-WinAbove levels (get_or set k d) (λ c loss. above (get_or set k d) c (widths k d b) loss (h.guarded k d b c loss));
  };
  least = h.least;
}
  where
    above : (marks : List Mark) (c : ℕ) → length marks ≡ n → mark_at marks c ≡ L → (0 < slice_index levels c → (w : PlacedWin levels marks) × (slice_index levels w.it < slice_index levels c)) → WinAbove levels marks c
    above marks c width loss g =
        let within = mark_at-within marks c (λ even. let no : L ≡ E = sym loss ∙ even in cc) in
        let w = g (all c 0 (omega (arith, h.width))) in
        record { it = w.0.it; within = w.0.within; win = w.0.win; above = w.1 }

pub ranked-rounds : (n : ℕ) (set : List (List Mark)) (r : ℕ) (levels : List ℕ) → All (λ marks. length marks ≡ n) set → AreRounds n set r levels → All (λ level. 1 ≤ level) levels → (no_ranking_keeps n set ≡ false) × IsLeastHierarchy n set levels
ranked-rounds n set r levels widths h all =
    let least = IsLeastHierarchy-rounds n set r levels widths h all in
    (kept-satisfied n set levels widths least.satisfying, least)

-- Where each constraint that is not placed is blocked, and there is one, no ranking keeps the conditions.
pub hopeless-blocked : (n : ℕ) (set : List (List Mark)) (levels : List ℕ) (c : ℕ) → c < n → slice_index levels c ≡ 0 → ((d : ℕ) → d < n → slice_index levels d ≡ 0 → is_blocked levels set d ≡ true) → no_ranking_keeps n set ≡ true
unfolding no_ranking_keeps
hopeless-blocked n set levels c below none blocked = elim (cases_Bool (list_any (λ order. list_all (keeps order) set) (rankings n))) [
  | inl found ↦
      let f = ranking-found n (λ order. list_all (keeps order) set) found in
      let p = place_of f.order c (omega (arith, f.ranking.each c below)) in
      absurd (omega (arith, all_placed f.order f.ranking f.passes (suc p.at) p.at (omega arith) p.within, ap (slice_index levels) p.here))
  | inr not_found ↦ ap not not_found
]
  where
    -- A ranking that keeps the conditions has no first constraint that is not placed.
    all_placed : (order : List ℕ) → IsRanking n order → list_all (keeps order) set ≡ true → (m k : ℕ) → k < m → k < length order → 0 < slice_index levels (get_or order k 0)
    all_placed order r kept zero k early b = absurd (omega arith)
    all_placed order r kept (suc m) k early b = elim (cases_lt 0 (slice_index levels (get_or order k 0))) [
      | inl placed ↦ placed
      | inr unplaced ↦
          let o = blocked-open levels set (get_or order k 0) (blocked (get_or order k 0) (ranking-within n order k 0 r b) (omega arith)) in
          let w = guarded-keeps order (get_or set o.at []) (AllPass-from_list_all (keeps order) set kept o.at [] o.within) k b o.loss in
          absurd (omega (arith, w.before, open-unplaced levels (get_or set o.at []) (get_or order w.at 0) o.opened w.win, all_placed order r kept m w.at (omega (arith, w.before)) (omega (arith, w.before))))
    ]

-- Demotion is at its end: each constraint that is not placed is blocked.
pub record IsStuck (n : ℕ) (set : List (List Mark)) (levels : List ℕ) : Type 0 where
  pub blocked : (d : ℕ) → d < n → slice_index levels d ≡ 0 → is_blocked levels set d ≡ true
  pub left : ℕ
  pub below : left < n
  pub unplaced : slice_index levels left ≡ 0

-- it is, where a round placed nothing and a constraint is left
pub IsStuck-idle : (n : ℕ) (set : List (List Mark)) (given : ℕ) (old new : List ℕ) → length old ≡ n → 0 < given → IsRound set given old new → new ≡ old → Contains new 0 → IsStuck n set new
IsStuck-idle n set given old new width some round same h = rw same (record {
  blocked = λ d below none. elim (change_of set given old new round d) [
    | Kept p e ↦ absurd (omega arith)
    | Given within z free e ↦ absurd (omega (arith, ap (λ (levels : List ℕ). slice_index levels d) same))
    | Left z blocked e ↦ blocked
    | Past p e ↦ absurd (omega (arith, round.same))
  ];
  left = h.0;
  below = omega (arith, h.1, round.same);
  unplaced = ap (λ (levels : List ℕ). slice_index levels h.0) (sym same) ∙ h.2;
})

pub hopeless-stuck : (n : ℕ) (set : List (List Mark)) (levels : List ℕ) → IsStuck n set levels → no_ranking_keeps n set ≡ true
hopeless-stuck n set levels s = hopeless-blocked n set levels s.left s.below s.unplaced s.blocked

pub counted-none : (levels : List ℕ) → count_of 0 levels ≡ 0 → Contains levels 0 → ⊥
counted-none levels e h =
    let some : 0 < count_of 0 levels = rw h.2 at (counted levels h.0 0 h.1) in
    absurd (omega arith)
