-- An input that has a winner adds its terms.
use Rattle.std.proofs.Common.{◌∙◌, None, Some, arith, ap, sym}
use Rattle.std.proofs.lemmas.List.{append-nil}
use Rattle.ot_theory.specs.Languages.{terms_of_givens}
use Rattle.refutation.specs.Terms.{terms_in}
use Rattle.refutation.proofs.Winning.{one-input, winners-are_terms, winners-one_winner}
use Rattle.refutation.proofs.winners.winner_terms.Goals as goal
use Rattle.refutation.proofs.winners.winner_terms.Goals.{in-Some+in_ok-add_terms, in_default}

pub loop-i-init : goal.loop-i-init
loop-i-init c = c.in_ok-terms.ensures ∙ sym (append-nil (terms_of_givens c.args.p.now))

pub loop-i-preserved : goal.loop-i-preserved
loop-i-preserved c = elim c.match-winner.branch [
  | in-Some+in_ok-add_terms w ↦ one-input c.args.p.now c.loop-i.terms c.match-winner.terms c.loop-i.i (Some w.in-Some.winner.0) w.in-Some.ensures.value c.loop-i.invariant (ap terms_in w.terms-is ∙ w.in_ok-add_terms.ensures)
  | in_default w ↦ one-input c.args.p.now c.loop-i.terms c.match-winner.terms c.loop-i.i None w.in_default.ensures.value c.loop-i.invariant (ap terms_in w.terms-is ∙ sym (append-nil (terms_in c.loop-i.terms)))
]

pub returns-clause-genuine : goal.returns-clause-genuine
returns-clause-genuine c = winners-are_terms c.args.p.now c.loop-i.terms c.loop-i.i c.inputs-i-end.ensures.well_formed (omega (arith, c.inputs-i-end.ensures.value, c.loop-i.auto.i-end)) c.loop-i.invariant

pub returns-clause-one : goal.returns-clause-one
returns-clause-one c = winners-one_winner c.args.p.now c.loop-i.terms c.loop-i.i c.loop-i.invariant
