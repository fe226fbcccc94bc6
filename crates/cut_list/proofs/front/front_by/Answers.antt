use Rattle.std.proofs.Common.{◌+◌, ◌-◌, arith}
use Rattle.cut_list.proofs.Fronts.{front-behind, front-more}
use Rattle.cut_list.proofs.front.front_by.Goals as goal

pub loop-end-preserved : goal.loop-end-preserved
loop-end-preserved c =
    let end = c.loop-end.end in
    let more = c.args.count in (
      omega (arith, c.loop-end-test.true, c.loop-end.invariant.0),
      front-more end more (end + more - end) c.args.before.now c.args.classes.now (omega arith) c.loop-end.invariant.1 (c.are_same.ensures.same c.if-are_same.true),
    )

pub returns-else-are_same-clause-ended : goal.returns-else-are_same-clause-ended
returns-else-are_same-clause-ended c = λ within_before within_classes same.
    let end = c.loop-end.end in
    let more = c.args.count in
    c.are_same.ensures.differ c.if-are_same.false (front-behind end more (end + more - end) c.args.before.now c.args.classes.now (omega arith) same)
