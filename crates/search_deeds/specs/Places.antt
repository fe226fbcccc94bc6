-- The index of the program as that of the theory.
use Rattle.std.specs.Prelude.{List}
use Rattle.ot_theory.specs.Problems.{Problem}
use Rattle.refutation.specs.Typologies.{certificates_of}
use Rattle.refutation.specs.declared.contradiction.Contradiction.{Contradiction}
use Rattle.search_deeds.specs.declared.index.Index.{Index}
use Rattle.search_deeds.specs.Indexed.{IsIndex}
use Rattle.search_deeds.specs.Admitted.{AreBlocked}

-- this is the index of these certificates
pub record IsIndexOf (problem : Problem) (certificates : List Contradiction) (index : Index) : Type 0 where
  pub places : IsIndex problem (certificates_of certificates) index.widest index.places.items
  pub blocked : AreBlocked (certificates_of certificates) index.places.items index.blocks.items
