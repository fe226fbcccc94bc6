-- The front of a queue that is not empty goes into the hand.
use Rattle.std.proofs.Common.{ap, map}
use Rattle.refutation.specs.Typologies.{certificates_of}
use Rattle.search_deeds.specs.Gathered.{deeds_in}
use Rattle.search_machine.specs.Machine.{State}
use Rattle.search_machine.specs.Seen.{Progress}
use Rattle.search_machine.proofs.Machines.{picks}
use Rattle.search_machine.proofs.machine.Machine.pick.Goals as goal

pub invariant_of-self-2 : goal.invariant_of-self-2
invariant_of-self-2 c =
    let i = c.self.inside in
    let r = picks i.p.now i.queues.items i.hands.items i.outboxes.items (map deeds_in i.deeds.items) (certificates_of i.store) c.args.w c.args.v c.in-Some.prefix c.index_mut.result.now c.take.new.self c.picked.result
    (rw (← c.self.view_is) at c.requires.idle) (rw (← c.self.view_is) at c.requires.filled) c.index_mut.ensures.value c.in-Some.ensures.front c.take.ensures.rest c.picked.ensures.seen (c.picked.ensures.least i.p.now) c.self.invariant.kept c.self.invariant.least in
    record { kept = r.kept; least = r.least; made = c.self.invariant.made }

pub returns : goal.returns
returns c =
    let i = c.self.inside in
    let r = picks i.p.now i.queues.items i.hands.items i.outboxes.items (map deeds_in i.deeds.items) (certificates_of i.store) c.args.w c.args.v c.in-Some.prefix c.index_mut.result.now c.take.new.self c.picked.result
    (rw (← c.self.view_is) at c.requires.idle) (rw (← c.self.view_is) at c.requires.filled) c.index_mut.ensures.value c.in-Some.ensures.front c.take.ensures.rest c.picked.ensures.seen (c.picked.ensures.least i.p.now) c.self.invariant.kept c.self.invariant.least in
    rw (← c.self.view_is) (ap (λ (s : State). let made : Progress = record { problem = i.p.now; places = i.places; state = s; learns = i.learns } in made) r.is)
