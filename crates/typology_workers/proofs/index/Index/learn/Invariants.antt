use Rattle.refutation.specs.Typologies.{certificates_of}
use Rattle.search_deeds.specs.Sieved.{AreMarked}
use Rattle.typology_workers.specs.Indexed.{IsIndex}
use Rattle.typology_workers.proofs.index.Index.learn.Given as goal

abbrev pub invariant-loop-place : goal.invariant-loop-place
invariant-loop-place l = record {
  index : IsIndex l.p l.self.slots.items l.place l.front.values;
  marked : AreMarked (certificates_of l.front.values) l.self.slots.items l.self.marks.items;
}
