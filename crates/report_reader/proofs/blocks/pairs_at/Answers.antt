use Rattle.std.proofs.lemmas.Result.{err_from_is_err_and}
use Rattle.report_reader.specs.Shapes.{is_given}
use Rattle.report_reader.specs.Grammar.{tests_at}
use Rattle.report_reader.proofs.LinesInTurn.{tests_go_on, tests_end}
use Rattle.report_reader.proofs.blocks.pairs_at.Goals as goal

pub returns-in_err-rest : goal.returns-in_err-rest
returns-in_err-rest c =
    let p = err_from_is_err_and c.from_residual.result c.from_residual.ensures.1 in
    rw (p.1, p.2) (tests_end c.in_err-rest.field-0.0 (is_given c.args.n) c.args.count c.loop-k.k c.loop-k.rest.now
    (tests_at (is_given c.args.n) 1 c.args.count c.args.bytes.now) c.loop-k-test.true c.in_err-rest.ensures c.loop-k.invariant)

pub loop-k-preserved : goal.loop-k-preserved
loop-k-preserved c =
    tests_go_on (is_given c.args.n) c.args.count c.loop-k.k c.loop-k.rest.now c.in_ok-rest.rest.now
    (tests_at (is_given c.args.n) 1 c.args.count c.args.bytes.now) c.loop-k-test.true c.in_ok-rest.ensures c.loop-k.invariant
