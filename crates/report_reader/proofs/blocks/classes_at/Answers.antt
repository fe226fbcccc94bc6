use Rattle.std.proofs.lemmas.Result.{err_from_is_err_and}
use Rattle.report_reader.specs.Shapes.{is_class}
use Rattle.report_reader.specs.Grammar.{tests_at}
use Rattle.report_reader.proofs.LinesInTurn.{tests_go_on, tests_end}
use Rattle.report_reader.proofs.blocks.classes_at.Goals as goal

pub returns-in_err-rest : goal.returns-in_err-rest
returns-in_err-rest c =
    let p = err_from_is_err_and c.from_residual.result c.from_residual.ensures.1 in
    rw (p.1, p.2) (tests_end c.in_err-rest.field-0.0 (is_class c.args.n c.args.i) c.args.count c.loop-a.a c.loop-a.rest.now
    (tests_at (is_class c.args.n c.args.i) 1 c.args.count c.args.bytes.now) c.loop-a-test.true c.in_err-rest.ensures c.loop-a.invariant)

pub loop-a-preserved : goal.loop-a-preserved
loop-a-preserved c =
    tests_go_on (is_class c.args.n c.args.i) c.args.count c.loop-a.a c.loop-a.rest.now c.in_ok-rest.rest.now
    (tests_at (is_class c.args.n c.args.i) 1 c.args.count c.args.bytes.now) c.loop-a-test.true c.in_ok-rest.ensures c.loop-a.invariant
