-- Each class adds what it asks.
use Rattle.std.proofs.Common.{[], arith}
use Rattle.refutation.proofs.Asking.{asked-givens, asked-more, asked-prefix}
use Rattle.refutation.proofs.Implied.{asked-nothing}
use Rattle.refutation.proofs.refuting.asked_of.Goals as goal

pub loop-i-init : goal.loop-i-init
loop-i-init c = asked-givens c.args.p.now c.add_givens.new.self.terms.items c.add_givens.new.self.conditions.items
    (c.in_ok-add_givens.ensures [] (rw (c.nothing-asked.ensures.terms, c.nothing-asked.ensures.conditions) (asked-nothing c.args.p.now)))

pub loop-i-preserved : goal.loop-i-preserved
loop-i-preserved c = asked-more c.args.p.now c.args.prefix.now c.loop-i.i _ c.add.new.self.terms.items c.add.new.self.conditions.items c.loop-i-test.true (c.in_ok-add.ensures.asked _ c.loop-i.invariant)

pub returns : goal.returns
returns c = asked-prefix c.args.p.now c.args.prefix.now c.loop-i.i c.loop-i.asked.terms.items c.loop-i.asked.conditions.items (omega (arith, c.loop-i-test.false)) c.loop-i.invariant
