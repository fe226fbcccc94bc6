-- A class that is not the winner adds a term.
use Rattle.std.proofs.Common.{◌++◌, refl, sym}
use Rattle.std.proofs.lemmas.Bool.{not-true, not-false}
use Rattle.ot_theory.proofs.Terms.{term}
use Rattle.ot_theory.proofs.WinnerTerms.{terms_below}
use Rattle.refutation.proofs.Implied.{asked-other, asked-same, Begins-trans}
use Rattle.refutation.proofs.asked.Asked.add.Goals as goal
use Rattle.refutation.proofs.asked.Asked.add.Goals.{then-ne+in_ok-add_term, else-ne}

pub loop-b-preserved : goal.loop-b-preserved
loop-b-preserved c =
    let i = c.args.input.0 in
    let a = c.args.winner.0 in
    elim c.if-ne.branch [
      | then-ne+in_ok-add_term w ↦ rw w.self-is (record {
        asked = λ whole h. asked-other c.args.p.now whole i a c.loop-b.b (term i a c.loop-b.b) w.add_term.new.self.terms.items w.add_term.new.self.conditions.items (not-true _ (sym w.if-ne.ensures)) refl
            (w.in_ok-add_term.ensures.asked (whole ++ terms_below i a c.loop-b.b) (c.loop-b.invariant.asked whole h));
        terms = Begins-trans _ _ _ c.loop-b.invariant.terms w.in_ok-add_term.ensures.terms;
        conditions = Begins-trans _ _ _ c.loop-b.invariant.conditions w.in_ok-add_term.ensures.conditions;
      })
      | else-ne w ↦ rw w.self-is (record {
        asked = λ whole h. asked-same c.args.p.now whole i a c.loop-b.b c.loop-b.self.terms.items c.loop-b.self.conditions.items (not-false _ (sym w.if-ne.ensures)) (c.loop-b.invariant.asked whole h);
        terms = c.loop-b.invariant.terms;
        conditions = c.loop-b.invariant.conditions;
      })
    ]
