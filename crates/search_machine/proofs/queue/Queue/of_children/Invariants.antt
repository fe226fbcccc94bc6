use Rattle.std.proofs.Common.{◌≡◌}
use Rattle.search_deeds.proofs.Children.{children_below}
use Rattle.search_machine.proofs.queue.Queue.of_children.Given as goal

-- the children of the classes so far
abbrev pub invariant-loop-a : goal.invariant-loop-a
invariant-loop-a l = l.queue ≡ children_below l.prefix l.a
