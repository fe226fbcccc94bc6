-- What the given pairs ask stands at the front, and each class adds what it asks.
use Rattle.std.proofs.Common.{[], arith}
use Rattle.ot_theory.specs.Languages.{terms_of}
use Rattle.refutation.proofs.Implied.{asked-nothing}
use Rattle.refutation.proofs.Asking.{asked-more, asked-prefix}
use Rattle.search_deeds.proofs.ready.Ready.asked_by.Goals as goal

pub loop-i-init : goal.loop-i-init
loop-i-init c = record {
  asked = c.in_ok-append.ensures.asked c.args.p.now [] (terms_of c.args.p.now []) (rw (c.in_ok-with_capacity.ensures.items, c.in_ok-with_capacity-2.ensures.items) (asked-nothing c.args.p.now)) c.requires.made.givens;
  made = c.requires.made;
}

pub loop-i-preserved : goal.loop-i-preserved
loop-i-preserved c = record {
  asked = asked-more c.args.p.now c.args.prefix.now c.loop-i.i _ c.add_needed.new.asked.terms.items c.add_needed.new.asked.conditions.items c.loop-i-test.true (c.in_ok-add_needed.ensures.asked _ c.loop-i.invariant.asked);
  made = c.add_needed.ensures.made;
}

pub returns-clause-asked : goal.returns-clause-asked
returns-clause-asked c = asked-prefix c.args.p.now c.args.prefix.now c.loop-i.i c.loop-i.asked.terms.items c.loop-i.asked.conditions.items (omega (arith, c.loop-i-test.false)) c.loop-i.invariant.asked
