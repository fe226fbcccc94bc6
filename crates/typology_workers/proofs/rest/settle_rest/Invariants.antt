use Rattle.typology_workers.proofs.Gathers.{HasSettledSome, weight}
use Rattle.typology_workers.proofs.rest.settle_rest.Given as goal
use Rattle.search_deeds.specs.Made.{AreMade}

abbrev pub invariant-loop-prefix : goal.invariant-loop-prefix
invariant-loop-prefix l = HasSettledSome l.p l.initial.gatherer l.gatherer × AreMade l.p l.ready

abbrev pub decreases-loop-prefix : goal.decreases-loop-prefix
decreases-loop-prefix l = weight l.p l.gatherer.waiting.items
