-- Each seat is still in the list or in a packet, in order.
use Rattle.std.proofs.Common.{◌≡◌, ◌++◌, length}
use Rattle.std.specs.Prelude.{All}
use Rattle.refutation_store.specs.Fronts.{Begins}
use Rattle.typology_workers.specs.Packets.{seats_of}
use Rattle.typology_workers.proofs.dealing.packets.Given as goal

abbrev pub invariant-loop-seat : goal.invariant-loop-seat
invariant-loop-seat l = record {
  whole : l.initial.seats ≡ l.seats ++ seats_of l.packets.items;
  fronts : All (λ packet. Begins l.store packet.front) l.packets.items;
}

abbrev pub decreases-loop-seat : goal.decreases-loop-seat
decreases-loop-seat l = length l.seats
