-- A class that is not the winner adds a term.
use Rattle.std.proofs.Common.{◌∙◌, refl, sym}
use Rattle.std.proofs.lemmas.Bool.{not-true, not-false}
use Rattle.refutation.specs.Terms.{terms_in}
use Rattle.refutation.proofs.Winning.{passed, pushed}
use Rattle.refutation.proofs.winners.add_terms.Goals as goal
use Rattle.refutation.proofs.winners.add_terms.Goals.{then-ne+in_ok-push, else-ne}

pub loop-b-preserved : goal.loop-b-preserved
loop-b-preserved c =
    let i = c.args.input.0 in
    let a = c.args.winner.0 in
    elim c.if-ne.branch [
      | then-ne+in_ok-push w ↦ pushed c.loop-b.terms c.if-ne.terms (terms_in c.args.terms.now) _ i a c.loop-b.b (not-true _ (sym w.if-ne.ensures)) (w.terms-is ∙ w.in_ok-push.ensures.ok) refl c.loop-b.invariant
      | else-ne w ↦ passed c.loop-b.terms c.if-ne.terms (terms_in c.args.terms.now) i a c.loop-b.b (not-false _ (sym w.if-ne.ensures)) w.terms-is c.loop-b.invariant
    ]
