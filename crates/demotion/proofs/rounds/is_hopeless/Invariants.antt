-- the mask is that of the rounds so far
use Rattle.std.proofs.Common.{◌-◌}
use Rattle.demotion.proofs.Stuck.{IsPlaced}
use Rattle.demotion.proofs.rounds.is_hopeless.Given as goal

abbrev pub invariant-loop-placed : goal.invariant-loop-placed
invariant-loop-placed l = IsPlaced l.n l.set l.placed

abbrev pub decreases-loop-placed : goal.decreases-loop-placed
decreases-loop-placed l = 18446744073709551615 - l.placed
