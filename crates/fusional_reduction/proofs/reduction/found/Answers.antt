use Rattle.std.proofs.Common.{List, ◌∙◌, sym, subst}
use Rattle.std.proofs.lemmas.Bool.{eqb-true}
use Rattle.ot_theory.specs.Conditions.{width_of}
use Rattle.fusional_reduction.specs.declared.member.Member.{Member}
use Rattle.fusional_reduction.specs.Visits.{IsVisited, AreFound}
use Rattle.fusional_reduction.proofs.Listed.{found-visited, found-none}
use Rattle.fusional_reduction.proofs.reduction.found.Goals as goal
use Rattle.fusional_reduction.proofs.reduction.found.Goals.{then-not-is_empty+in_ok-visit, else-not-is_empty}

pub returns : goal.returns
returns c = elim c.if-not-is_empty.branch [
  | then-not-is_empty+in_ok-visit w ↦ rw w.members-is (found-visited (width_of c.args.set.now) c.args.set.now w.visit.new.members.items c.requires (subst (λ (old : List Member). IsVisited (width_of c.args.set.now) c.args.set.now c.args.set.now old w.visit.new.members.items) c.new-members.ensures.items w.in_ok-visit.ensures))
  | else-not-is_empty w ↦ rw w.members-is (subst (λ (f : List Member). AreFound (width_of c.args.set.now) c.args.set.now f) (sym c.new-members.ensures.items) (found-none (width_of c.args.set.now) c.args.set.now (eqb-true _ _ (sym c.is_empty.ensures ∙ w.if-not-is_empty.false))))
]
