-- A node just below has fewer conditions, and what is left of a group is smaller.
use Rattle.std.proofs.Common.{◌+◌, length}
use Rattle.fusional_reduction.proofs.visit.+visit.Given as goal

abbrev pub decreases-visit : goal.decreases-visit
decreases-visit l = length l.node.now + length l.group.now
