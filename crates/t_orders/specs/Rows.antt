-- What some choices have at each input, and the implications that this tells.
use Rattle.std.specs.Prelude.{◌≡◌, ℕ, ◌<◌, List, [], ◌∷◌, ◌++◌, map, length, slice_index, slice_index_or, ◌==◌, filter, flat_map, fold, if◌then◌else◌, Option, Some, None}
use Rattle.ot_base.specs.declared.tableau.ClassId.{ClassId}
use Rattle.ot_theory.specs.Rankings.{numbers_below}
use Rattle.ot_theory.specs.Problems.{Problem}
use Rattle.refutation.specs.declared.implication.Implication.{Implication}
use Rattle.violation_profiles.specs.WellFormed.{IsPrefix}
use Rattle.t_orders.specs.declared.seen.Seen.{Seen}
use Rattle.t_orders.specs.declared.seen.Seen.TheVariants.{Nothing, One, Several}
use Rattle.t_orders.specs.Implications.{Output, has, implication}

-- what is seen with one class more
abbrev pub seen_with : Seen → ℕ → Seen
seen_with Nothing b = One (record { 0 = b })
seen_with (One only) b = if b == only.0 then One only else Several
seen_with Several b = Several

-- what is seen of some classes
abbrev pub seen_of : List ℕ → Seen
seen_of classes = fold seen_with Nothing classes

-- the class, where all were one
abbrev pub only_of : Seen → Option ClassId
only_of Nothing = None
only_of (One only) = Some only
only_of Several = None

-- what stands at input j of a row
abbrev pub seen_at : List Seen → ℕ → Seen
seen_at row j = slice_index_or row j Nothing

-- Of some choices of as many inputs, the row has what is seen of their classes at each input.
pub record IsRowOf (choices : List (List ℕ)) (inputs : ℕ) (row : List Seen) : Type 0 where
  pub width : length row ≡ inputs
  pub each : (j : ℕ) → j < inputs → seen_at row j ≡ seen_of (map (λ choice. slice_index choice j) choices)

-- The new row is that of a choice more, whatever choices the old one is of.
abbrev pub AddsChoice : List ℕ → List Seen → List Seen → Type 0
AddsChoice choice old new = (choices : List (List ℕ)) (inputs : ℕ) → IsRowOf choices inputs old → IsRowOf (choices ++ choice ∷ []) inputs new

-- the choices that have a class at an input
abbrev pub having : Output → List (List ℕ) → List (List ℕ)
having output choices = filter (has output) choices

-- Each class of input i has the row of the choices that have it.
pub record IsTableOf (choices : List (List ℕ)) (i classes inputs : ℕ) (table : List (List Seen)) : Type 0 where
  pub long : length table ≡ classes
  pub rows : (a : ℕ) → a < classes → IsRowOf (having (record { input = i; class = a }) choices) inputs (slice_index_or table a [])

-- a choice of one class for each input of the problem
pub record IsChoice (problem : Problem) (choice : List ℕ) : Type 0 where
  pub full : length choice ≡ length problem.inputs
  pub prefix : IsPrefix problem choice

-- what a row tells of input j: the one class seen there is implied, unless it is of the same input
abbrev pub implied_at : Output → ℕ → Seen → List Implication
implied_at from j Nothing = []
implied_at from j (One only) = if j == from.input then [] else implication from (record { input = j; class = only.0 }) ∷ []
implied_at from j Several = []

abbrev pub implied_by_row : Output → List Seen → List Implication
implied_by_row from row = flat_map (λ j. implied_at from j (seen_at row j)) (numbers_below (length row))

abbrev pub implied_by_table : ℕ → List (List Seen) → List Implication
implied_by_table i table = flat_map (λ a. implied_by_row (record { input = i; class = a }) (slice_index_or table a [])) (numbers_below (length table))
