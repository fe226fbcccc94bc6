-- Each class adds its terms.
use Rattle.std.proofs.Common.{◌∙◌, arith, sym}
use Rattle.refutation.specs.Prefixes.{class_numbers}
use Rattle.refutation.specs.Terms.{terms_in}
use Rattle.refutation.proofs.TermsOfPrefixes.{are_terms-of_prefix, one_winner-of_prefix, terms_of-none, terms-more, terms-whole}
use Rattle.refutation.proofs.refuting.terms_of.Goals as goal

pub loop-i-init : goal.loop-i-init
loop-i-init c = c.in_ok-terms.ensures ∙ sym (terms_of-none c.args.p.now)

pub loop-i-preserved : goal.loop-i-preserved
loop-i-preserved c = terms-more c.args.p.now c.args.prefix.now c.loop-i.i _ (terms_in c.loop-i.terms) _ c.loop-i-test.true c.loop-i.invariant c.in_ok-add_terms.ensures

pub returns-clause-genuine : goal.returns-clause-genuine
returns-clause-genuine c =
    are_terms-of_prefix c.args.p.now (class_numbers c.args.prefix.now) c.loop-i.terms c.requires
    (terms-whole c.args.p.now c.args.prefix.now c.loop-i.i (terms_in c.loop-i.terms) (omega (arith, c.loop-i-test.false)) c.loop-i.invariant)

pub returns-clause-one : goal.returns-clause-one
returns-clause-one c =
    one_winner-of_prefix c.args.p.now (class_numbers c.args.prefix.now) c.loop-i.terms
    (terms-whole c.args.p.now c.args.prefix.now c.loop-i.i (terms_in c.loop-i.terms) (omega (arith, c.loop-i-test.false)) c.loop-i.invariant)
