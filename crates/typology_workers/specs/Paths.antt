-- The prefix that was judged last, and what its classes ask of a ranking.
use Rattle.std.specs.Prelude.{◌≡◌, ℕ, ◌+◌, ◌<◌, ◌≤◌, true, false, List, [], ◌∷◌, ◌++◌, map, length, slice_index, slice_index_or, take}
use Rattle.ot_theory.specs.Problems.{Problem}
use Rattle.ot_theory.specs.Languages.{terms_of}
use Rattle.ot_theory.specs.Refutations.{no_ranking_keeps}
use Rattle.refutation.specs.Asked.{AreAsked}
use Rattle.search_deeds.specs.Made.{AreMade}
use Rattle.typology_workers.specs.Remembered.{AreRemembered}
use Rattle.typology_workers.specs.declared.path.Path.{Path}

abbrev pub prefix_of : Path → List ℕ
prefix_of path = map (λ step. step.class.0) path.steps.items

-- for each class how many terms the classes before it ask for
abbrev pub before_of : Path → List ℕ
before_of path = map (λ step. step.before) path.steps.items

-- The terms and conditions are what the classes ask, and those before each class what the classes before it ask. Some ranking keeps each
-- of the fronts that are counted.
pub record IsPathOf (problem : Problem) (path : Path) : Type 0 where
  pub asked : AreAsked problem (terms_of problem (prefix_of path)) path.asked.terms.items path.asked.conditions.items
  pub before : (k : ℕ) → k < length path.steps.items
      → AreAsked problem (terms_of problem (take k (prefix_of path))) (take (slice_index (before_of path) k) path.asked.terms.items) (take (slice_index (before_of path) k) path.asked.conditions.items)
  pub within : (k : ℕ) → k < length path.steps.items → slice_index (before_of path) k ≤ length path.asked.terms.items
  pub ordered : (j k : ℕ) → j ≤ k → k < length path.steps.items → slice_index (before_of path) j ≤ slice_index (before_of path) k
  pub fronts : (k : ℕ) → k < path.fronts → no_ranking_keeps problem.constraints (take k path.asked.conditions.items) ≡ false
  pub reach : path.fronts ≤ length path.asked.terms.items + 1
  pub made : AreMade problem path.ready
  pub remembered : AreRemembered problem path.memo

-- Some ranking keeps the terms before this place, and none keeps the one that stands here beside what the first classes ask.
pub record IsLastNeeded (problem : Problem) (path : Path) (front place : ℕ) : Type 0 where
  pub within : place < length path.asked.terms.items
  pub behind : slice_index (before_of path) front ≤ place
  pub some : no_ranking_keeps problem.constraints (take place path.asked.conditions.items) ≡ false
  pub none : no_ranking_keeps problem.constraints (take (slice_index (before_of path) front) path.asked.conditions.items ++ slice_index_or path.asked.conditions.items place [] ∷ []) ≡ true
