-- The child of one class more stands behind the others.
use Rattle.std.proofs.Common.{[]}
use Rattle.search_deeds.proofs.Children.{children-more}
use Rattle.search_machine.proofs.queue.Queue.of_children.Goals as goal

pub loop-a-preserved : goal.loop-a-preserved
loop-a-preserved c = children-more c.args.prefix.now c.loop-a.a [] c.loop-a.queue c.put.new.self c.in_ok-child.field-0 c.loop-a.invariant c.in_ok-put.ensures.ok c.in_ok-child.ensures
