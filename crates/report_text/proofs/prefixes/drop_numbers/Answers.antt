use Rattle.std.proofs.Common.{arith}
use Rattle.report_text.proofs.Kept.{number-fits, number-dropped}
use Rattle.report_text.proofs.prefixes.drop_numbers.Goals as goal

pub overflow_sub-end : goal.overflow_sub-end
overflow_sub-end c =
    number-fits c.args.classes.now c.loop-class.class-index _ c.loop-class.end c.digit_count.result c.args.kept.now (omega (arith, c.loop-class-test.true)) c.digit_count.ensures.count c.requires c.loop-class.invariant

pub loop-class-preserved : goal.loop-class-preserved
loop-class-preserved c =
    number-dropped c.args.classes.now c.loop-class.class-index _ c.loop-class.end c.digit_count.result c.args.kept.now (omega (arith, c.loop-class-test.true)) c.digit_count.ensures.count c.requires c.loop-class.invariant
