-- the constraints whose bits are gone have the number, and the others are as they were
use Rattle.demotion.proofs.Placing.{AreGiven}
use Rattle.demotion.proofs.rounds.place.Given as goal

abbrev pub invariant-loop-levels : goal.invariant-loop-levels
invariant-loop-levels l = AreGiven l.bits l.left l.given l.initial.levels l.levels

abbrev pub decreases-loop-levels : goal.decreases-loop-levels
decreases-loop-levels l = l.left
