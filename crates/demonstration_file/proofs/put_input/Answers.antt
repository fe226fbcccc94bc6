use Rattle.std.proofs.Common.{arith}
use Rattle.demonstration_file.proofs.Growing.{rows-more, rows-written, states-more}
use Rattle.demonstration_file.proofs.put_input.Goals as goal

pub loop-j-preserved : goal.loop-j-preserved
loop-j-preserved c = (
  rows-more c.args.generator.now c.args.k c.loop-j.j c.loop-j.generator _ _ _ c.loop-j.invariant.1 c.loop-j.invariant.0 c.in_ok-put_row.ensures.row,
  states-more c.args.generator.now c.loop-j.j 3 c.loop-j.generator _ c.loop-j.invariant.1 c.in_ok-put_row.ensures.state,
)

pub returns-clause-rows : goal.returns-clause-rows
returns-clause-rows c = rows-written c.args.generator.now c.args.k c.loop-j.j _ _ (omega (arith, c.loop-j-test.false, c.loop-j.auto.j-end)) c.loop-j.invariant.0
