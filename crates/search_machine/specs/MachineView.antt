-- What a machine holds, as contracts see it.
use Rattle.std.specs.Prelude.{map, All}
use Rattle.refutation.specs.Typologies.{certificates_of}
use Rattle.search_deeds.specs.Gathered.{deeds_in}
use Rattle.search_deeds.specs.Made.{AreMade}
use Rattle.search_machine.specs.Kept.{IsKept}
use Rattle.search_machine.specs.Machine.{State}
use Rattle.search_machine.specs.Seen.{HasLeast, Progress, hands_seen}
use Rattle.search_machine.specs.declared.machine.Machine.TheInside.{Inside}

abbrev pub state_in : Inside → State
state_in machine = record {
  queues = machine.queues.items;
  hands = hands_seen machine.hands.items;
  outboxes = machine.outboxes.items;
  deeds = map deeds_in machine.deeds.items;
  store = certificates_of machine.store;
}

abbrev pub progress_of : Inside → Progress
progress_of machine = record { problem = machine.p.now; places = machine.places; state = state_in machine; learns = machine.learns }

pub record IsSound (machine : Inside) : Type 0 where
  pub kept : IsKept machine.p.now (state_in machine)
  pub least : All (HasLeast machine.p.now) machine.hands.items
  pub made : AreMade machine.p.now machine.ready
