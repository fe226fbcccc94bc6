-- Biased demotion builds a hierarchy a stratum at a time, and places faithfulness constraints only where it must. Of each
-- constraint a list says whether it is a faithfulness constraint; the others are markedness constraints. The constraints
-- that are not placed yet have the number 0.
use Rattle.std.specs.Prelude.{◌≡◌, ◌≢◌, ℕ, ◌<◌, ◌≤◌, Bool, true, false, not, ◌&&◌, ◌==◌, List, [], ◌∷◌, map, length, slice_index, slice_index_or, slice_set, nat_lt, filter, fold, max, All, Contains, if◌then◌else◌}
use Rattle.std.specs.List.{list_any}
use Rattle.ot_theory.specs.declared.Mark.{Mark}
use Rattle.ot_theory.specs.Rankings.{numbers_below}
use Rattle.ot_theory.specs.Conditions.{is_win, mark_at}
use Rattle.ot_theory.specs.Hierarchies.{in_stratum}
use Rattle.ot_theory.specs.Demotion.{is_blocked, is_open}

abbrev pub is_faithfulness : List Bool → ℕ → Bool
is_faithfulness faith c = slice_index_or faith c false

abbrev pub is_markedness : List Bool → ℕ → Bool
is_markedness faith c = not (slice_index_or faith c true)

-- A constraint is free where it is not placed yet and no open condition has L at it.
abbrev pub is_free : List ℕ → List (List Mark) → ℕ → Bool
is_free levels set c = (slice_index levels c == 0) && not (is_blocked levels set c)

-- some open condition has W at the constraint
abbrev pub has_open_win : List ℕ → List (List Mark) → ℕ → Bool
has_open_win levels set c = list_any (λ marks. is_open levels marks && is_win (mark_at marks c)) set

-- a faithfulness constraint that is free and has a W in an open condition
abbrev pub is_active : List Bool → List ℕ → List (List Mark) → ℕ → Bool
is_active faith levels set c = is_faithfulness faith c && is_free levels set c && has_open_win levels set c

-- the free markedness constraints, ascending
abbrev pub free_markedness : List Bool → List ℕ → List (List Mark) → List ℕ
free_markedness faith levels set = filter (λ c. is_markedness faith c && is_free levels set c) (numbers_below (length faith))

-- the free faithfulness constraints that have a W in an open condition, ascending
abbrev pub active_faithfulness : List Bool → List ℕ → List (List Mark) → List ℕ
active_faithfulness faith levels set = filter (is_active faith levels set) (numbers_below (length faith))

-- all free constraints, ascending
abbrev pub free_constraints : List Bool → List ℕ → List (List Mark) → List ℕ
free_constraints faith levels set = filter (is_free levels set) (numbers_below (length faith))

-- the number of unplaced markedness constraints that are free once this constraint is placed alone
abbrev pub freed : List Bool → List ℕ → List (List Mark) → ℕ → ℕ
freed faith levels set c = length (free_markedness faith (slice_set levels c 1) set)

-- Of the free faithfulness constraints that have a W in an open condition, the one that, placed alone, makes the greatest
-- number of unplaced markedness constraints free, and the first of those that make as many free. The number is positive.
pub record IsMostFreeing (faith : List Bool) (levels : List ℕ) (set : List (List Mark)) (c : ℕ) : Type 0 where
  pub active : Contains (active_faithfulness faith levels set) c
  pub some : 0 < freed faith levels set c
  pub greatest : All (λ d. freed faith levels set d ≤ freed faith levels set c) (active_faithfulness faith levels set)
  pub first : All (λ d. d < c → freed faith levels set d < freed faith levels set c) (active_faithfulness faith levels set)

-- None of them, placed alone, makes an unplaced markedness constraint free.
abbrev pub NoneFrees : List Bool → List ℕ → List (List Mark) → Type 0
NoneFrees faith levels set = All (λ c. freed faith levels set c ≡ 0) (active_faithfulness faith levels set)

-- The next stratum, over what is placed so far, is what the first of four rules gives that gives something.
pub data IsNext (faith : List Bool) (levels : List ℕ) (set : List (List Mark)) (stratum : List ℕ) : Type 0 where
  -- all free markedness constraints
  FreeMarkedness : free_markedness faith levels set ≢ [] → stratum ≡ free_markedness faith levels set → IsNext faith levels set stratum
  -- the one faithfulness constraint that makes the greatest number of markedness constraints free
  OneFaithfulness : free_markedness faith levels set ≡ [] → (c : ℕ) → IsMostFreeing faith levels set c → stratum ≡ c ∷ [] → IsNext faith levels set stratum
  -- all free faithfulness constraints that have a W in an open condition
  ActiveFaithfulness : free_markedness faith levels set ≡ [] → NoneFrees faith levels set → active_faithfulness faith levels set ≢ [] → stratum ≡ active_faithfulness faith levels set → IsNext faith levels set stratum
  -- all free constraints
  AllFree : free_markedness faith levels set ≡ [] → active_faithfulness faith levels set ≡ [] → free_constraints faith levels set ≢ [] → stratum ≡ free_constraints faith levels set → IsNext faith levels set stratum

-- what is placed above a stratum: there the constraints have their numbers, and the others are not placed yet
abbrev pub placed_above : List ℕ → ℕ → List ℕ
placed_above levels s = map (λ level. if nat_lt level s then level else 0) levels

-- The hierarchy of biased demotion places each constraint, and each of its strata, from 1 to the lowest, is the next one
-- over what is placed above it.
pub record IsBiased (faith : List Bool) (set : List (List Mark)) (levels : List ℕ) : Type 0 where
  pub width : length levels ≡ length faith
  pub placed : All (λ level. 1 ≤ level) levels
  pub each : (s : ℕ) → 1 ≤ s → s ≤ fold max 0 levels → IsNext faith (placed_above levels s) set (in_stratum levels s)
