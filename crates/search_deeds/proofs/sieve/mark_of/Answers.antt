use Rattle.std.proofs.Common.{arith, get_or}
use Rattle.std.proofs.lemmas.List.{length-map, take_all}
use Rattle.refutation.specs.Terms.{term_of, terms_in}
use Rattle.search_deeds.proofs.Choices.{term-at, no_term}
use Rattle.search_deeds.proofs.Sieving.{IsMarkOf-none, IsMarkOf-more}
use Rattle.search_deeds.proofs.sieve.mark_of.Goals as goal

pub loop-term-init : goal.loop-term-init
loop-term-init c = IsMarkOf-none

pub loop-term-preserved : goal.loop-term-preserved
loop-term-preserved c =
    let k = c.loop-term.term-index in
    IsMarkOf-more (terms_in c.args.terms.now) c.loop-term.mark c.bit_asked-mark.result k (term_of (get_or c.args.terms.now k no_term)) (omega (arith, c.loop-term-test.true, length-map c.args.terms.now term_of)) (term-at c.args.terms.now k c.loop-term-test.true) c.bit_asked-mark.ensures c.loop-term.invariant

pub returns : goal.returns
returns c = rw (take_all c.loop-term.term-index (terms_in c.args.terms.now) (omega (arith, length-map c.args.terms.now term_of))) at c.loop-term.invariant
