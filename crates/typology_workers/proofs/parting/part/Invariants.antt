use Rattle.typology_workers.specs.Packets.{ArePartsOf}
use Rattle.typology_workers.proofs.parting.part.Given as goal

abbrev pub invariant-loop-one : goal.invariant-loop-one
invariant-loop-one l = ArePartsOf l.fn.waiting.items l.yielded l.parts
