-- Which constraints stand above which in every ranking that keeps a set of conditions.
use Rattle.std.specs.Prelude.{ℕ, Bool, not, ◌&&◌, ◌==◌, List, map, filter, flat_map}
use Rattle.std.specs.List.{list_any}
use Rattle.ot_theory.specs.declared.Mark.{Mark}
use Rattle.ot_theory.specs.Rankings.{numbers_below}
pub use Rattle.ot_theory.specs.Conditions.{over}
use Rattle.ot_theory.specs.Entailment.{entails}
use Rattle.erc_vectors.specs.declared.cover.Cover.{Cover}

-- Constraint c stands necessarily above d where the set entails the condition with W at c, L at d and e elsewhere.
abbrev pub necessarily_above : ℕ → List (List Mark) → ℕ → ℕ → Bool
necessarily_above n set c d = not (c == d) && entails n set (over n c d)

-- some constraint stands necessarily between the two: below c and above d
abbrev pub some_between : ℕ → List (List Mark) → ℕ → ℕ → Bool
some_between n set c d = list_any (λ k. necessarily_above n set c k && necessarily_above n set k d) (numbers_below n)

-- A cover is a necessary pair with no constraint necessarily between the two.
abbrev pub is_cover : ℕ → List (List Mark) → Cover → Bool
is_cover n set pair = necessarily_above n set pair.above.0 pair.below.0 && not (some_between n set pair.above.0 pair.below.0)

-- the pair of c, which stands above, and d
abbrev pub pair_of : ℕ → ℕ → Cover
pair_of c d = record { above = record { 0 = c }; below = record { 0 = d } }

-- all pairs of n constraints, by the one above and then by the one below
abbrev pub pairs : ℕ → List Cover
pairs n = flat_map (λ c. map (pair_of c) (numbers_below n)) (numbers_below n)

-- the covers of a set of conditions, in that order
abbrev pub covers : ℕ → List (List Mark) → List Cover
covers n set = filter (is_cover n set) (pairs n)
