use Rattle.report_reader.specs.Shapes.{is_constraint}
use Rattle.report_reader.specs.Grammar.{tests_at}
use Rattle.report_reader.proofs.LinesInTurn.{tests_go_on}
use Rattle.report_reader.proofs.blocks.constraints_at.Goals as goal

pub loop-k-preserved : goal.loop-k-preserved
loop-k-preserved c =
    tests_go_on is_constraint c.args.count c.loop-k.k c.loop-k.rest.now c.in_ok-rest.rest.now (tests_at is_constraint 1 c.args.count c.args.bytes.now)
    c.loop-k-test.true c.in_ok-rest.ensures c.loop-k.invariant
