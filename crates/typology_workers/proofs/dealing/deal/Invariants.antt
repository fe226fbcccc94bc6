-- Each prefix so far is dealt, and there is a packet of the number k.
use Rattle.std.proofs.Common.{◌<◌, ◌≡◌, length}
use Rattle.typology_workers.specs.Packets.{AreDealt}
use Rattle.typology_workers.proofs.dealing.deal.Given as goal

abbrev pub invariant-loop-prefix : goal.invariant-loop-prefix
invariant-loop-prefix l = record {
  within : l.k < length l.packets.items;
  many : length l.packets.items ≡ length l.initial.packets.items;
  dealt : AreDealt l.initial.packets.items l.initial.waiting.items l.packets.items l.back.items l.waiting.items;
}

abbrev pub decreases-loop-prefix : goal.decreases-loop-prefix
decreases-loop-prefix l = length l.waiting.items
