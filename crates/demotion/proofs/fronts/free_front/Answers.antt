use Rattle.std.proofs.Common.{◌∙◌, sym}
use Rattle.demotion.proofs.Narrowing.{front-more, full-bit}
use Rattle.demotion.proofs.fronts.free_front.Goals as goal

pub loop-k-preserved : goal.loop-k-preserved
loop-k-preserved c = record {
  free = c.if-placed-more.false;
  bits = front-more c.args.placed c.args.before c.loop-k.blocked c.losses_if_open.result c.loop-k.k c.args.conditions.now c.index-conditions-k.result c.loop-k-test.true c.loop-k.invariant.bits (rw (← c.index-conditions-k.is) c.losses_if_open.ensures);
}

pub returns-then-placed-more-clause-full : goal.returns-then-placed-more-clause-full
returns-then-placed-more-clause-full c = λ below d within none.
    sym (front-more c.args.placed c.args.before c.loop-k.blocked c.losses_if_open.result c.loop-k.k c.args.conditions.now c.index-conditions-k.result c.loop-k-test.true c.loop-k.invariant.bits (rw (← c.index-conditions-k.is) c.losses_if_open.ensures) d)
    ∙ full-bit c.args.placed _ d c.if-placed-more.true within none
