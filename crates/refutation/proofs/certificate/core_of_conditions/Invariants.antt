use Rattle.refutation.proofs.Fronts.{AreFront}
use Rattle.refutation.proofs.certificate.core_of_conditions.Given as goal

-- the conditions of the front of the terms in which the others stand are at the start, and those of the terms kept so far at the end
abbrev pub invariant-loop-last : goal.invariant-loop-last
invariant-loop-last l = AreFront l.p l.terms l.kept.items l.conditions.items l.front l.others

abbrev pub decreases-loop-last : goal.decreases-loop-last
decreases-loop-last l = l.front
