-- what the rows so far tell is added, and of the next row what it tells of the inputs so far
use Rattle.std.proofs.Common.{◌≡◌, ◌++◌, [], flat_map, slice_index_or}
use Rattle.ot_theory.specs.Rankings.{numbers_below}
use Rattle.t_orders.specs.Rows.{implied_at, implied_by_row, seen_at}
use Rattle.t_orders.proofs.Listed.{output}
use Rattle.t_orders.proofs.listing.add_by_table.Given as goal

abbrev pub invariant-loop-a : goal.invariant-loop-a
invariant-loop-a l = l.listed ≡ l.initial.listed ++ flat_map (λ a. implied_by_row (output l.from_input.0 a) (slice_index_or l.table a [])) (numbers_below l.a)

abbrev pub invariant-loop-j : goal.invariant-loop-j
invariant-loop-j l = l.listed ≡ l.initial.listed ++ flat_map (λ k. implied_at (output l.from_input.0 l.a) k (seen_at (slice_index_or l.table l.a []) k)) (numbers_below l.j)
