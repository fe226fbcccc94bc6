-- the block admits all that it admitted
use Rattle.search_deeds.proofs.Admitting.{Widens}
use Rattle.search_deeds.proofs.blocks.Block.add.Given as goal

abbrev pub invariant-loop-term : goal.invariant-loop-term
invariant-loop-term l = Widens l.initial.self l.self
