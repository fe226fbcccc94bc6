use Rattle.std.proofs.Common.{refl, arith, take}
use Rattle.std.proofs.lemmas.List.{map_more, take_all}
use Rattle.refutation.specs.Terms.{term_of, terms_in}
use Rattle.search_deeds.proofs.Choices.{no_term}
use Rattle.search_deeds.proofs.index.last_choice.Goals as goal

pub loop-term-init : goal.loop-term-init
loop-term-init c = refl

pub loop-term-preserved : goal.loop-term-preserved
loop-term-preserved c =
    rw (map_more term_of c.args.terms.now c.loop-term.term-index no_term c.loop-term-test.true) (c.last_with-last.ensures (terms_in (take c.loop-term.term-index c.args.terms.now)) c.loop-term.invariant)

pub returns : goal.returns
returns c = rw (take_all c.loop-term.term-index c.args.terms.now (omega arith)) at c.loop-term.invariant
