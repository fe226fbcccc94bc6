-- The prefix in the hand is judged.
use Rattle.std.proofs.Common.{ap, map}
use Rattle.ot_base.specs.Causes.{next_number}
use Rattle.refutation.specs.Typologies.{certificates_of}
use Rattle.search_deeds.specs.Gathered.{deeds_in}
use Rattle.search_machine.specs.Machine.{State}
use Rattle.search_machine.specs.Seen.{Progress}
use Rattle.search_machine.proofs.Machines.{learns}
use Rattle.search_machine.proofs.machine.Machine.learn.Goals as goal

pub invariant_of-self-2 : goal.invariant_of-self-2
invariant_of-self-2 c =
    let i = c.self.inside in
    let r = learns i.p.now i.places i.queues.items i.hands.items i.outboxes.items (map deeds_in i.deeds.items) (certificates_of i.store) (certificates_of c.learn.new.store) c.args.w c.index_mut.result.now c.learn.new.hand
    (rw (← c.self.view_is) at c.requires) c.index_mut.ensures.value c.in_ok-learn.ensures.seen c.in_ok-learn.ensures.store c.in_ok-learn.ensures.genuine c.in_ok-learn.ensures.least c.self.invariant.kept c.self.invariant.least in
    record { kept = r.kept; least = r.least; made = c.learn.ensures.made }

pub returns-clause-made : goal.returns-clause-made
returns-clause-made c =
    let i = c.self.inside in
    let r = learns i.p.now i.places i.queues.items i.hands.items i.outboxes.items (map deeds_in i.deeds.items) (certificates_of i.store) (certificates_of c.learn.new.store) c.args.w c.index_mut.result.now c.learn.new.hand
    (rw (← c.self.view_is) at c.requires) c.index_mut.ensures.value c.in_ok-learn.ensures.seen c.in_ok-learn.ensures.store c.in_ok-learn.ensures.genuine c.in_ok-learn.ensures.least c.self.invariant.kept c.self.invariant.least in
    rw (← c.self.view_is, c.saturating_add-self-inside.ensures) (ap (λ (s : State). let made : Progress = record { problem = i.p.now; places = i.places; state = s; learns = next_number i.learns } in made) r.is)
