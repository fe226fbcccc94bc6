use Rattle.std.proofs.Common.{◌-◌}
use Rattle.demotion.proofs.Narrowing.{IsNarrowed}
use Rattle.demotion.proofs.fronts.last_needed.Given as goal

abbrev pub invariant-loop-placed : goal.invariant-loop-placed
invariant-loop-placed l = IsNarrowed l.n l.others l.conditions l.placed l.last

abbrev pub decreases-loop-placed : goal.decreases-loop-placed
decreases-loop-placed l = 18446744073709551615 - l.placed
