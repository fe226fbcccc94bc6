use Rattle.typology_workers.proofs.Gathers.{weight}
use Rattle.typology_workers.proofs.Openings.{IsUnderWay}
use Rattle.typology_workers.proofs.opening.opening.Given as goal
use Rattle.search_deeds.specs.Made.{AreMade}

abbrev pub invariant-loop-prefix : goal.invariant-loop-prefix
invariant-loop-prefix l = IsUnderWay l.p l.enough l.gatherer × AreMade l.p l.ready

abbrev pub decreases-loop-prefix : goal.decreases-loop-prefix
decreases-loop-prefix l = weight l.p l.gatherer.waiting.items
