-- Demotion builds a hierarchy a stratum at a time. The constraints that are not placed yet have the number 0.
use Rattle.std.specs.Prelude.{◌≡◌, ℕ, ◌<◌, Bool, true, false, not, ◌&&◌, ◌==◌, List, [], map, length, slice_index, slice_index_or, nat_lt, filter, All, Contains, IsTrue, if◌then◌else◌}
use Rattle.std.specs.List.{list_any}
use Rattle.ot_theory.specs.declared.Mark.{Mark}
use Rattle.ot_theory.specs.declared.Mark.TheVariants.{W, L}
use Rattle.ot_theory.specs.Rankings.{numbers_below}
use Rattle.ot_theory.specs.Conditions.{is_win, is_loss, mark_at, fusion, is_contradictory}

-- A condition is closed where a constraint with W is placed.
abbrev pub is_closed : List ℕ → List Mark → Bool
is_closed levels marks = list_any (λ c. is_win (mark_at marks c) && nat_lt 0 (slice_index levels c)) (numbers_below (length marks))

-- A constraint is blocked where a condition that is not closed has L at it, and free elsewhere.
abbrev pub is_blocked : List ℕ → List (List Mark) → ℕ → Bool
is_blocked levels set c = list_any (λ marks. not (is_closed levels marks) && is_loss (mark_at marks c)) set

-- A condition is open where it has an L and is not closed.
abbrev pub is_open : List ℕ → List Mark → Bool
is_open levels marks = list_any is_loss marks && not (is_closed levels marks)

-- the positions of the open conditions
abbrev pub open_positions : List ℕ → List (List Mark) → List ℕ
open_positions levels set = filter (λ k. is_open levels (slice_index_or set k [])) (numbers_below (length set))

-- the conditions at these positions of a set
abbrev pub at_positions : List (List Mark) → List ℕ → List (List Mark)
at_positions set positions = map (λ k. slice_index_or set k []) positions

-- A part of a set, by its positions, stays open where each of its conditions has an L and their fusion has no W: a
-- constraint at which one of them has W is blocked by another of them, as long as none of them is closed.
pub record StaysOpen (n : ℕ) (set : List (List Mark)) (part : List ℕ) : Type 0 where
  pub within : All (λ k. k < length set) part
  pub losses : All (λ k. IsTrue (list_any is_loss (slice_index_or set k []))) part
  pub no_win : list_any is_win (fusion n (at_positions set part)) ≡ false

-- The conditions that demotion leaves open are the greatest part that stays open, and fuse to an L and no W. They stand
-- here by their positions, ascending and each once.
pub record AreLeftOpen (n : ℕ) (set : List (List Mark)) (positions : List ℕ) : Type 0 where
  pub ascending : (i j : ℕ) → i < j → j < length positions → slice_index positions i < slice_index positions j
  pub stays : StaysOpen n set positions
  pub greatest : (part : List ℕ) → StaysOpen n set part → All (Contains positions) part
  pub contradiction : is_contradictory (fusion n (at_positions set positions)) ≡ true

-- the number of a constraint after a round that gives the free ones this number
abbrev pub level_after : ℕ → Bool → ℕ → ℕ
level_after level blocked given = if (level == 0) && not blocked then given else level

-- a constraint with W that is placed
pub record PlacedWin (levels : List ℕ) (marks : List Mark) : Type 0 where
  pub it : ℕ
  pub within : it < length marks
  pub win : mark_at marks it ≡ W
  pub placed : 0 < slice_index levels it

-- Each L at a placed constraint has a W above it.
abbrev pub IsGuarded : List ℕ → List Mark → Type 0
IsGuarded levels marks = (d : ℕ) → mark_at marks d ≡ L → 0 < slice_index levels d → (w : PlacedWin levels marks) × (slice_index levels w.it < slice_index levels d)
