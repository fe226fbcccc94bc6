-- Laws of the definitions.
use Rattle.std.specs.Prelude.{◌≡◌, ◌↔◌, ℕ, ◌<◌, Bool, true, not, ◌||◌, ◌==◌, List, [], ◌∷◌, map, length, slice_index_or, filter, All, Contains}
use Rattle.std.specs.List.{list_all}
use Rattle.ot_theory.specs.declared.Mark.{Mark}
use Rattle.ot_theory.specs.Rankings.{numbers_below, IsRanking, rankings, optimal, stands_before}
use Rattle.ot_theory.specs.Conditions.{condition, over, keeps, fusion, is_contradictory, is_even, exchanged}
use Rattle.ot_theory.specs.Hierarchies.{satisfies, satisfies_by_least}
use Rattle.ot_theory.specs.Problems.{classes_of, IsPair, Pair}
use Rattle.ot_theory.specs.Refutations.{no_ranking_keeps}
use Rattle.ot_theory.specs.Entailment.{entails}

-- The list of the rankings of n constraints holds each of them, and nothing else.
abbrev pub HoldsRankings : ℕ → Type 0
HoldsRankings n = ((order : List ℕ) → IsRanking n order → Contains (rankings n) order) × All (IsRanking n) (rankings n)

-- A hierarchy satisfies a condition exactly where it does by the least strata of its W's and of its L's.
abbrev pub IsSatisfiedByLeast : List ℕ → List Mark → Type 0
IsSatisfiedByLeast levels marks = length levels ≡ length marks → satisfies levels marks ≡ satisfies_by_least levels marks

-- Some of a set's conditions, those that pass a test and at least one, fuse to an L and no W.
pub record HasContradictoryPart (n : ℕ) (set : List (List Mark)) : Type 0 where
  pub test : List Mark → Bool
  pub some : 0 < length (filter test set)
  pub contradictory : is_contradictory (fusion n (filter test set)) ≡ true

-- No ranking of n constraints keeps a set of conditions exactly where some non-empty part of it fuses to an L and no W.
abbrev pub IsInconsistentByFusion : ℕ → List (List Mark) → Type 0
IsInconsistentByFusion n set = no_ranking_keeps n set ≡ true ↔ HasContradictoryPart n set

-- the ranking keeps the conditions of a class over all other classes
abbrev pub keeps_over_others : List ℕ → List (List ℕ) → ℕ → Bool
keeps_over_others order classes a =
    list_all (λ b. keeps order (condition (slice_index_or classes a []) (slice_index_or classes b []))) (filter (λ b. not (b == a)) (numbers_below (length classes)))

-- Of the classes of an input's candidates, one is optimal exactly where the ranking keeps its conditions over all others.
abbrev pub IsOptimalByConditions : ℕ → List ℕ → List (List ℕ) → ℕ → Type 0
IsOptimalByConditions n order profiles a =
    IsRanking n order → All (λ profile. length profile ≡ n) profiles → a < length (classes_of profiles)
    → optimal order (classes_of profiles) a ≡ keeps_over_others order (classes_of profiles) a

-- A set entails a condition exactly where the marks of the condition are all e, or no ranking keeps the set and the condition with W
-- and L exchanged.
abbrev pub IsEntailedByNegation : ℕ → List (List Mark) → List Mark → Type 0
IsEntailedByNegation n set marks = length marks ≡ n → entails n set marks ≡ (list_all is_even marks || no_ranking_keeps n (map exchanged marks ∷ set))

-- The upper constraint of a given pair stands before the lower one exactly where the ranking keeps the condition of the pair.
abbrev pub IsKeptByCondition : ℕ → List ℕ → Pair → Type 0
IsKeptByCondition n order pair = IsRanking n order → IsPair n pair → stands_before order pair.above pair.below ≡ keeps order (over n pair.above pair.below)
