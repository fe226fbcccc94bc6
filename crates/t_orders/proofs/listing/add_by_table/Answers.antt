use Rattle.std.proofs.Common.{arith, []}
use Rattle.std.specs.Prelude.{slice_index_or}
use Rattle.t_orders.specs.Rows.{implied_at, seen_at}
use Rattle.t_orders.proofs.Listed.{added, output, table-row}
use Rattle.t_orders.proofs.listing.add_by_table.Goals as goal

pub loop-j-preserved : goal.loop-j-preserved
loop-j-preserved c =
    added c.loop-a.listed c.loop-j.listed c.add_at.new.listed (λ k. implied_at (output c.args.from_input.0 c.loop-a.a) k (seen_at (slice_index_or c.args.table.now c.loop-a.a []) k)) c.loop-j.j c.loop-j.invariant c.in_ok-add_at.ensures

pub loop-a-preserved : goal.loop-a-preserved
loop-a-preserved c =
    table-row c.args.from_input.0 c.args.listed.now c.loop-a.listed c.loop-j.listed c.args.table.now c.loop-a.a c.loop-j.j c.args.inputs c.requires.widths c.loop-a-test.true (omega (arith, c.loop-j-test.false, c.loop-j.auto.j-end)) c.loop-a.invariant c.loop-j.invariant
