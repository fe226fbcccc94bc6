use Rattle.std.proofs.Common.{length}
use Rattle.refutation.specs.Typologies.{certificates_of}
use Rattle.search_deeds.specs.Sieved.{AreMarked}
use Rattle.typology_workers.specs.Paths.{IsPathOf}
use Rattle.typology_workers.specs.Indexed.{IsIndex}
use Rattle.typology_workers.proofs.Turning.{IsBetween}
use Rattle.typology_workers.proofs.worker.work.Given as goal

abbrev pub invariant-loop-turn : goal.invariant-loop-turn
invariant-loop-turn g l = ((IsIndex l.p l.index.slots.items l.index.indexed l.front.values × AreMarked (certificates_of l.front.values) l.index.slots.items l.index.marks.items) × IsPathOf l.p l.path) × IsBetween l.p (length l.store) l.initial.seat l.seat l.initial.front l.front l.work l.idle l.taken l.turn
