use Rattle.refutation.specs.Typologies.{certificates_of, cuts_of}
use Rattle.search_deeds.specs.Gathered.{AreGenuine, IsCertified}
use Rattle.search_deeds.specs.Made.{AreMade}
use Rattle.search_deeds.specs.Places.{IsIndexOf}
use Rattle.search_deeds.proofs.certified.certified.Given as goal

-- the prefixes so far name their certificates, and these are genuine; what the classes ask is made right
abbrev pub invariant-loop-prefix : goal.invariant-loop-prefix
invariant-loop-prefix l = record {
  certified : IsCertified l.p l.yielded (cuts_of l.cuts) (certificates_of l.certificates);
  genuine : AreGenuine l.p l.certificates;
  indexed : IsIndexOf l.p l.certificates l.index;
  made : AreMade l.p l.ready;
}
