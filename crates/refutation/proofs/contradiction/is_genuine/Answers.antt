-- The tests one after another.
use Rattle.std.proofs.Common.{◌≡◌, ◌∙◌, sym}
use Rattle.refutation.proofs.SoFar.{genuine-fused, not-one-winner, not-terms}
use Rattle.refutation.proofs.contradiction.is_genuine.Goals as goal

pub returns-then-not-are_terms : goal.returns-then-not-are_terms
returns-then-not-are_terms c =
    let terms : c.as_slice-terms.result.now ≡ c.args.c.now.terms = c.as_slice-terms.ensures in
    not-terms c.args.p.now c.args.c.now.terms (rw terms at (sym c.are_terms.ensures ∙ c.if-not-are_terms.true))

pub returns-then-not-have_one_winner_each : goal.returns-then-not-have_one_winner_each
returns-then-not-have_one_winner_each c =
    let terms : c.as_slice-terms.result.now ≡ c.args.c.now.terms = c.as_slice-terms.ensures in
    not-one-winner c.args.p.now c.args.c.now.terms (rw terms at (sym c.are_terms.ensures ∙ c.if-not-are_terms.false)) (rw terms at (sym c.have_one_winner_each.ensures ∙ c.if-not-have_one_winner_each.true))

pub returns : goal.returns
returns c =
    let terms : c.as_slice-terms.result.now ≡ c.args.c.now.terms = c.as_slice-terms.ensures in
    (rw terms at c.fuse_to_contradiction.ensures)
    ∙ genuine-fused c.args.p.now c.args.c.now.terms (rw terms at (sym c.are_terms.ensures ∙ c.if-not-are_terms.false)) (rw terms at (sym c.have_one_winner_each.ensures ∙ c.if-not-have_one_winner_each.false))
