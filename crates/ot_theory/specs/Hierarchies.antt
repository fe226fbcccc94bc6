-- Hierarchies: each constraint has a stratum number, from 1 on. A smaller number stands higher.
use Rattle.std.specs.Prelude.{◌≡◌, ℕ, ◌≤◌, Bool, true, false, not, ◌&&◌, ◌||◌, IsTrue, List, [], ◌∷◌, length, slice_index, nat_lt, min, All, Option, Some, None, filter, flat_map, fold, max, ◌==◌, if◌then◌else◌}
use Rattle.std.specs.List.{list_any, list_all, range_with_len}
use Rattle.std.specs.Option.{option_map_or}
use Rattle.ot_theory.specs.declared.Mark.{Mark}
use Rattle.ot_theory.specs.Rankings.{numbers_below}
use Rattle.ot_theory.specs.Conditions.{is_win, is_loss, mark_at}

-- some constraint with W stands in a higher stratum than this one
abbrev pub has_win_above : List ℕ → List Mark → ℕ → Bool
has_win_above levels marks d =
    list_any (λ c. is_win (mark_at marks c) && nat_lt (slice_index levels c) (slice_index levels d)) (numbers_below (length marks))

-- A hierarchy satisfies a condition where each constraint with L has one with W in a higher stratum. So with W and L the
-- least stratum of its W's is smaller than the least of its L's; every condition without L is satisfied, and none with an
-- L and without W.
abbrev pub satisfies : List ℕ → List Mark → Bool
satisfies levels marks =
    list_all (λ d. not (is_loss (mark_at marks d)) || has_win_above levels marks d) (numbers_below (length marks))

-- a hierarchy of n constraints that satisfies each condition of the set
pub record Satisfies (n : ℕ) (set : List (List Mark)) (levels : List ℕ) : Type 0 where
  pub width : length levels ≡ n
  pub from_one : All (λ level. 1 ≤ level) levels
  pub each : All (λ marks. IsTrue (satisfies levels marks)) set

-- each constraint has a number that is at most its number in every hierarchy that satisfies the set
abbrev pub IsAtMostEvery : ℕ → List (List Mark) → List ℕ → Type 0
IsAtMostEvery n set levels = (other : List ℕ) → Satisfies n set other → (c : ℕ) → slice_index levels c ≤ slice_index other c

-- The least hierarchy of a set satisfies it, and no hierarchy that does gives a constraint a smaller number.
pub record IsLeastHierarchy (n : ℕ) (set : List (List Mark)) (levels : List ℕ) : Type 0 where
  pub satisfying : Satisfies n set levels
  pub least : IsAtMostEvery n set levels

-- the constraints of a stratum, ascending
abbrev pub in_stratum : List ℕ → ℕ → List ℕ
in_stratum levels s = filter (λ c. slice_index levels c == s) (numbers_below (length levels))

-- the constraints by stratum number, from 1 to the greatest, and within a stratum ascending
abbrev pub order_along : List ℕ → List ℕ
order_along levels = flat_map (in_stratum levels) (range_with_len 1 (fold max 0 levels))

-- The wording of the textbook: the smallest stratum number of the constraints with a mark that passes, if there are any.
abbrev pub least_number : (Mark → Bool) → List ℕ → List Mark → Option ℕ
least_number test levels [] = None
least_number test [] (mark ∷ marks) = None
least_number test (level ∷ levels) (mark ∷ marks) =
    if test mark then Some (option_map_or (λ other. min level other) (least_number test levels marks) level) else least_number test levels marks

-- A condition with both W and L is satisfied where the least number of its W's is smaller than that of its L's, one
-- without L always, and one with an L and no W never.
abbrev pub is_satisfied : Option ℕ → Option ℕ → Bool
is_satisfied wins None = true
is_satisfied None (Some loss) = false
is_satisfied (Some win) (Some loss) = nat_lt win loss

abbrev pub satisfies_by_least : List ℕ → List Mark → Bool
satisfies_by_least levels marks = is_satisfied (least_number is_win levels marks) (least_number is_loss levels marks)
