use Rattle.std.proofs.Common.{◌<◌, arith, length}
use Rattle.std.proofs.lemmas.List.{get_or_default}
use Rattle.refutation.specs.Terms.{terms_in}
use Rattle.search_deeds.proofs.Admitting.{AreAdmitting-more, AreAdmitting-none}
use Rattle.search_deeds.proofs.blocks.admit.Goals as goal

pub loop-k-init : goal.loop-k-init
loop-k-init c = AreAdmitting-none (terms_in c.args.terms.now) c.args.bit c.args.rows.now

pub loop-k-preserved : goal.loop-k-preserved
loop-k-preserved c =
    let within : c.loop-k.k < length c.loop-k.rows = omega (arith, c.loop-k-test.true, c.loop-k.invariant.long) in
    AreAdmitting-more (terms_in c.args.terms.now) c.args.bit c.args.rows.now c.loop-k.rows c.loop-k.k _ c.admit.new.self within (get_or_default c.loop-k.rows c.loop-k.k _ _ within) c.admit.ensures.own c.admit.ensures.others c.loop-k.invariant

pub returns-clause-own : goal.returns-clause-own
returns-clause-own c = λ prefix made j d within. c.loop-k.invariant.own j d prefix (omega (arith, within, c.loop-k-test.false, c.loop-k.invariant.long)) made

pub returns-clause-others : goal.returns-clause-others
returns-clause-others c = λ prefix b all j d within. c.loop-k.invariant.others j d prefix b within (all j d (omega (arith, within, c.loop-k.invariant.long)))
