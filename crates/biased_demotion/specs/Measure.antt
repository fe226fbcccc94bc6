-- The r-measure of a hierarchy: how much its markedness constraints stand above its faithfulness constraints.
use Rattle.std.specs.Prelude.{ℕ, Bool, ◌&&◌, List, map, length, slice_index, nat_lt, filter, sum, count_by}
use Rattle.ot_theory.specs.Rankings.{numbers_below}
use Rattle.biased_demotion.specs.Biased.{is_faithfulness, is_markedness}

-- the number of markedness constraints in strictly higher strata than this constraint
abbrev pub markedness_above : List Bool → List ℕ → ℕ → ℕ
markedness_above faith levels f = count_by (λ m. is_markedness faith m && nat_lt (slice_index levels m) (slice_index levels f)) (numbers_below (length faith))

-- the sum of these numbers over the faithfulness constraints
abbrev pub r_measure : List Bool → List ℕ → ℕ
r_measure faith levels = sum (map (markedness_above faith levels) (filter (is_faithfulness faith) (numbers_below (length faith))))
