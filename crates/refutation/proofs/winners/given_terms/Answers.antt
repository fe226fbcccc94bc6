use Rattle.std.proofs.Common.{◌∙◌, ap, [], ◌∷◌, sym}
use Rattle.std.proofs.lemmas.List.{map-append}
use Rattle.refutation.specs.declared.term.Term.TheVariants.{Given}
use Rattle.refutation.specs.Terms.{term_of, terms_in}
use Rattle.refutation.proofs.Implied.{givens-more}
use Rattle.refutation.proofs.winners.given_terms.Goals as goal

pub loop-k-preserved : goal.loop-k-preserved
loop-k-preserved c =
    ap terms_in c.in_ok-push.ensures.ok ∙ map-append term_of c.loop-k.terms (Given c.loop-k.k ∷ []) ∙ rw c.loop-k.invariant (sym (givens-more c.loop-k.k))
