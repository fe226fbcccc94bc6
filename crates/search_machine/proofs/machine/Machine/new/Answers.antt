-- Only the queue of worker 0 holds something at the start.
use Rattle.std.proofs.Common.{ap}
use Rattle.search_machine.specs.Machine.{State}
use Rattle.search_machine.specs.Seen.{Progress}
use Rattle.search_machine.proofs.Machines.{starts}
use Rattle.search_machine.proofs.machine.Machine.new.Goals as goal

pub invariant_of-result : goal.invariant_of-result
invariant_of-result c =
    let r = starts c.args.p.now c.args.workers c.in_ok-first_queues.field-0.items c.in_ok-empty_hands.field-0.items c.in_ok-no_prefixes.field-0.items c.in_ok-no_deeds.field-0.items c.new.result c.requires.some
    c.in_ok-first_queues.ensures c.in_ok-empty_hands.ensures c.in_ok-no_prefixes.ensures c.in_ok-no_deeds.ensures c.new.ensures in
    record { kept = r.kept; least = r.least; made = c.in_ok-new.ensures }

pub returns : goal.returns
returns c =
    let r = starts c.args.p.now c.args.workers c.in_ok-first_queues.field-0.items c.in_ok-empty_hands.field-0.items c.in_ok-no_prefixes.field-0.items c.in_ok-no_deeds.field-0.items c.new.result c.requires.some
    c.in_ok-first_queues.ensures c.in_ok-empty_hands.ensures c.in_ok-no_prefixes.ensures c.in_ok-no_deeds.ensures c.new.ensures in
    ap (λ (s : State). let made : Progress = record { problem = c.args.p.now; places = c.args.places; state = s; learns = 0 } in made) r.is
