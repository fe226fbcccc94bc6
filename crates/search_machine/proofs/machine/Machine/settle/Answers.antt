-- The deed of the prefix in the hand is added, or nothing changes.
use Rattle.refutation.specs.Typologies.{certificates_of}
use Rattle.search_machine.proofs.Machines.{OnOk-map, settles}
use Rattle.search_machine.proofs.machine.Machine.settle.Goals as goal

pub invariant_of-self : goal.invariant_of-self
invariant_of-self c =
    let i = c.self.inside in
    let r = settles i.p.now i.queues.items i.hands.items i.outboxes.items i.deeds.items (certificates_of i.store) c.args.w c.index_mut.result.now c.settle.new.hand c.index_mut-2.result.now c.settle.new.outbox c.index_mut-3.result.now c.settle.new.deeds c.settle.result
    (rw (← c.self.view_is) at c.requires) c.index_mut.ensures.value c.index_mut-2.ensures.value c.index_mut-3.ensures.value c.settle.ensures.settled c.settle.ensures.emptied c.settle.ensures.refused c.settle.ensures.same_outbox c.settle.ensures.same_deeds
    c.self.invariant.kept c.self.invariant.least in
    record { kept = r.kept; least = r.least; made = c.self.invariant.made }

pub returns-clause-leads : goal.returns-clause-leads
returns-clause-leads c =
    let i = c.self.inside in
    let enabled = rw (← c.self.view_is) at c.requires in
    let r = settles i.p.now i.queues.items i.hands.items i.outboxes.items i.deeds.items (certificates_of i.store) c.args.w c.index_mut.result.now c.settle.new.hand c.index_mut-2.result.now c.settle.new.outbox c.index_mut-3.result.now c.settle.new.deeds c.settle.result
    enabled c.index_mut.ensures.value c.index_mut-2.ensures.value c.index_mut-3.ensures.value c.settle.ensures.settled c.settle.ensures.emptied c.settle.ensures.refused c.settle.ensures.same_outbox c.settle.ensures.same_deeds
    c.self.invariant.kept c.self.invariant.least in
    rw (← c.self.view_is) (OnOk-map c.settle.result (λ m. record { enabled = enabled; made = m }) r.ok)
