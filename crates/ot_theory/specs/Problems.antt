-- Problems: a number of constraints, and inputs whose candidates fall into classes of equal profiles.
use Rattle.std.specs.Prelude.{◌≡◌, ◌≢◌, ◌<◌, ℕ, Bool, not, ◌&&◌, List, [], ◌∷◌, map, length, slice_index, slice_index_or, nat_lt, nat_le, nat_eq, filter, find, position, take, drop, Option, Some, option_and_then}
use Rattle.std.specs.Option.{option_map_or}
use Rattle.std.specs.List.{list_all}
use Rattle.std.specs.Cmp.Lexicographic.{pointwise}
use Rattle.ot_theory.specs.Rankings.{numbers_below}

-- An input: its distinct profiles in order of first candidate, each of which is a class; the positions of the candidates
-- of each class; and the class of its winner.
pub record Input : Type 0 where
  pub classes : List (List ℕ)
  pub members : List (List ℕ)
  pub winner : Option ℕ

-- A given pair of constraints: the upper one is to stand before the lower one.
pub record Pair : Type 0 where
  pub above : ℕ
  pub below : ℕ

-- Where no pairs were given there are none, and where some were given there may be none.
pub record Problem : Type 0 where
  pub constraints : ℕ
  pub inputs : List Input
  pub given : Option (List Pair)

-- the given pairs, in order
abbrev pub givens : Problem → List Pair
givens problem = option_map_or (λ pairs. pairs) problem.given []

-- the same problem with these given pairs
abbrev pub with_given : Problem → List Pair → Problem
with_given problem pairs = record { constraints = problem.constraints; inputs = problem.inputs; given = Some pairs }

-- two different constraints of n
pub record IsPair (n : ℕ) (pair : Pair) : Type 0 where
  pub above : pair.above < n
  pub below : pair.below < n
  pub differ : pair.above ≢ pair.below

abbrev pub same_profile : List ℕ → List ℕ → Bool
same_profile = pointwise nat_eq

-- the distinct profiles of the candidates, in order of first candidate
abbrev pub classes_of : List (List ℕ) → List (List ℕ)
classes_of [] = []
classes_of (profile ∷ profiles) = profile ∷ filter (λ other. not (same_profile profile other)) (classes_of profiles)

-- two profiles differ at some constraint
pub record Differ (n : ℕ) (a b : List ℕ) : Type 0 where
  pub at : ℕ
  pub within : at < n
  pub differ : slice_index a at ≢ slice_index b at

-- classes of n constraints each, no two of them alike
pub record AreClasses (n : ℕ) (classes : List (List ℕ)) : Type 0 where
  pub width : (a : ℕ) → a < length classes → length (slice_index_or classes a []) ≡ n
  pub distinct : (a b : ℕ) → a < length classes → b < length classes → b ≢ a → Differ n (slice_index_or classes a []) (slice_index_or classes b [])

-- the positions of the candidates with this profile
abbrev pub members_of : List (List ℕ) → List ℕ → List ℕ
members_of profiles profile = filter (λ k. same_profile profile (slice_index_or profiles k [])) (numbers_below (length profiles))

-- The winning candidate has a positive count, greater than each before it and no smaller than each after it.
abbrev pub is_winning : List ℕ → ℕ → Bool
is_winning counts k =
    nat_lt 0 (slice_index counts k)
    && list_all (λ count. nat_lt count (slice_index counts k)) (take k counts)
    && list_all (λ count. nat_le count (slice_index counts k)) (drop k counts)

-- the class of the winning candidate, if some count is positive
abbrev pub winner_of : List (List ℕ) → List ℕ → Option ℕ
winner_of profiles counts =
    option_and_then (λ k. position (same_profile (slice_index_or profiles k [])) (classes_of profiles)) (find (is_winning counts) (numbers_below (length counts)))

-- an input of candidates with these profiles and these counts
abbrev pub input_of : List (List ℕ) → List ℕ → Input
input_of profiles counts =
    record { classes = classes_of profiles; members = map (members_of profiles) (classes_of profiles); winner = winner_of profiles counts }
