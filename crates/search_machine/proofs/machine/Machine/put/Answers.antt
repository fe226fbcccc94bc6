-- The front of the outbox goes to the back of the queue, or nothing changes.
use Rattle.std.proofs.Common.{map}
use Rattle.refutation.specs.Typologies.{certificates_of}
use Rattle.search_deeds.specs.Gathered.{deeds_in}
use Rattle.search_machine.proofs.Machines.{posts}
use Rattle.search_machine.proofs.machine.Machine.put.Goals as goal

pub invariant_of-self : goal.invariant_of-self
invariant_of-self c =
    let i = c.self.inside in
    let r = posts i.p.now i.queues.items i.hands.items i.outboxes.items (map deeds_in i.deeds.items) (certificates_of i.store) c.args.w c.index_mut.result.now c.put_front.new.self c.index_mut-2.result.now c.put_front.new.other c.put_front.result
    (rw (← c.self.view_is) at c.requires) c.index_mut.ensures.value c.index_mut-2.ensures.value c.put_front.ensures.front c.put_front.ensures.back c.put_front.ensures.refused c.put_front.ensures.other_refused c.self.invariant.kept c.self.invariant.least in
    record { kept = r.kept; least = r.least; made = c.self.invariant.made }
