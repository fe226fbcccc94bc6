-- the W's that the conditions so far share
use Rattle.std.proofs.Common.{take}
use Rattle.fusional_reduction.specs.Chosen.{IsShared}
use Rattle.fusional_reduction.proofs.masks.shared_wins.Given as goal

abbrev pub invariant-loop-condition : goal.invariant-loop-condition
invariant-loop-condition l = IsShared (take l.condition-index l.set) l.wins
