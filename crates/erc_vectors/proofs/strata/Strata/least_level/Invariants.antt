-- the least number of the constraints whose bits are gone
use Rattle.erc_vectors.proofs.LeastLevel.{AreRead}
use Rattle.erc_vectors.proofs.strata.Strata.least_level.Given as goal

abbrev pub invariant-loop-left : goal.invariant-loop-left
invariant-loop-left l = AreRead l.self l.constraints l.left l.least

abbrev pub decreases-loop-left : goal.decreases-loop-left
decreases-loop-left l = l.left
