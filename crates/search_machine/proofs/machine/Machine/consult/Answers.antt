-- The next entry of the store is passed, or nothing changes.
use Rattle.std.proofs.Common.{ap, map}
use Rattle.refutation.specs.Typologies.{certificates_of}
use Rattle.search_deeds.specs.Gathered.{deeds_in}
use Rattle.search_machine.specs.Machine.{State}
use Rattle.search_machine.specs.Seen.{Progress}
use Rattle.search_machine.proofs.Machines.{OnOk-map, consults}
use Rattle.search_machine.proofs.machine.Machine.consult.Goals as goal

pub invariant_of-self : goal.invariant_of-self
invariant_of-self c =
    let i = c.self.inside in
    let r = consults i.p.now i.queues.items i.hands.items i.outboxes.items (map deeds_in i.deeds.items) (certificates_of i.store) c.args.w c.index_mut.result.now c.pass.new.hand c.pass.result
    (rw (← c.self.view_is) at c.requires) c.index_mut.ensures.value (rw c.as_slice.ensures at c.pass.ensures.seen) c.pass.ensures.least c.pass.ensures.refused c.self.invariant.kept c.self.invariant.least in
    record { kept = r.kept; least = r.least; made = c.self.invariant.made }

pub returns-clause-made : goal.returns-clause-made
returns-clause-made c =
    let i = c.self.inside in
    let r = consults i.p.now i.queues.items i.hands.items i.outboxes.items (map deeds_in i.deeds.items) (certificates_of i.store) c.args.w c.index_mut.result.now c.pass.new.hand c.pass.result
    (rw (← c.self.view_is) at c.requires) c.index_mut.ensures.value (rw c.as_slice.ensures at c.pass.ensures.seen) c.pass.ensures.least c.pass.ensures.refused c.self.invariant.kept c.self.invariant.least in
    rw (← c.self.view_is) (OnOk-map c.pass.result (ap (λ (s : State). let made : Progress = record { problem = i.p.now; places = i.places; state = s; learns = i.learns } in made)) r.ok)
