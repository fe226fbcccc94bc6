use Rattle.typology_workers.specs.Stays.{KeepsSeat}
use Rattle.typology_workers.specs.Turns.{HasHanded}
use Rattle.typology_workers.proofs.Hands.{children_to}
use Rattle.typology_workers.proofs.handing.hand_children.Given as goal

abbrev pub invariant-loop-a : goal.invariant-loop-a
invariant-loop-a l = HasHanded (children_to l.prefix l.a) l.initial.seat l.seat l.initial.outbox l.outbox × KeepsSeat l.initial.seat l.seat
