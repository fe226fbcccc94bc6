-- none of the places so far is admitted
use Rattle.std.proofs.Common.{◌-◌}
use Rattle.refutation.specs.Prefixes.{class_numbers}
use Rattle.search_deeds.proofs.Admitting.{ArePassed}
use Rattle.search_deeds.proofs.blocks.next_admitted.Given as goal

abbrev pub invariant-loop-k : goal.invariant-loop-k
invariant-loop-k l = ArePassed l.blocks (class_numbers l.prefix) l.from l.k

abbrev pub decreases-loop-k : goal.decreases-loop-k
decreases-loop-k l = l.count - l.k
