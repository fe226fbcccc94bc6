-- The winners so far tell whether a term has the winner of its input.
use Rattle.std.proofs.Common.{◌∙◌, arith, refl, length, take}
use Rattle.refutation.specs.Terms.{terms_in}
use Rattle.refutation.proofs.Implied.{no_term}
use Rattle.refutation.proofs.SoFar.{input-within, more-winners, no-winners, one-winner, two-winners}
use Rattle.refutation.proofs.contradiction.have_one_winner_each.Goals as goal

pub agrees-requires : goal.agrees-requires
agrees-requires c =
    input-within c.args.p.now c.args.terms.now c.loop-term.term-index (length c.loop-term.winners) no_term c.requires (omega (arith, c.inputs.ensures.value, c.inputs.ensures.small, c.loop-term.invariant.places)) c.loop-term-test.true

pub returns-then-not-agrees : goal.returns-then-not-agrees
returns-then-not-agrees c =
    two-winners c.args.terms.now c.loop-term.term-index no_term c.agrees.result c.loop-term-test.true (c.agrees.ensures.one (terms_in (take c.loop-term.term-index c.args.terms.now)) c.loop-term.invariant.seen c.loop-term.invariant.one) c.if-not-agrees.true

pub loop-term-preserved : goal.loop-term-preserved
loop-term-preserved c = record {
  places = c.agrees.ensures.length ∙ c.loop-term.invariant.places;
  seen = more-winners c.args.terms.now c.loop-term.term-index no_term c.agrees.new.winners c.loop-term-test.true (c.agrees.ensures.winners (terms_in (take c.loop-term.term-index c.args.terms.now)) c.loop-term.invariant.seen);
  one = one-winner c.args.terms.now c.loop-term.term-index no_term c.agrees.result c.loop-term-test.true (c.agrees.ensures.one (terms_in (take c.loop-term.term-index c.args.terms.now)) c.loop-term.invariant.seen c.loop-term.invariant.one) c.if-not-agrees.false;
}

pub loop-term-init : goal.loop-term-init
loop-term-init c = record { places = c.no_winners-winners.ensures.length; seen = no-winners c.no_winners-winners.result c.no_winners-winners.ensures.none; one = refl }
