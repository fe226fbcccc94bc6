use Rattle.std.proofs.Common.{arith, take_all}
use Rattle.report_text.proofs.WithBoth.{kept-are_terms}
use Rattle.report_text.proofs.bases.with_both.Goals as goal

pub returns-clause-genuine : goal.returns-clause-genuine
returns-clause-genuine c =
    let terms = c.args.terms.now in
    kept-are_terms c.args.p.now terms c.loop-term.kept c.requires (rw (take_all c.loop-term.term-index terms (omega (arith, c.loop-term-test.false))) at c.loop-term.invariant)
