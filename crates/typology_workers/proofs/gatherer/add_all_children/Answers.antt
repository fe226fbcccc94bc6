-- The child of one class more waits behind the others.
use Rattle.search_deeds.proofs.Children.{children-more}
use Rattle.typology_workers.proofs.gatherer.add_all_children.Goals as goal

pub loop-a-preserved : goal.loop-a-preserved
loop-a-preserved c =
    children-more c.args.prefix.now c.loop-a.a c.args.waiting.now.items c.loop-a.waiting.items c.push_back.new.self.items c.in_ok-child.field-0 c.loop-a.invariant c.in_ok-push_back.ensures.items c.in_ok-child.ensures
