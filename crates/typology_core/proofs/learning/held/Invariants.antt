-- the prefixes that hold so far, and those of the next length
use Rattle.typology_core.proofs.Holding.{IsHeldBelow}
use Rattle.typology_core.proofs.learning.held.Given as goal

abbrev pub invariant-loop-length : goal.invariant-loop-length
invariant-loop-length l = IsHeldBelow l.p l.length l.held l.reached
