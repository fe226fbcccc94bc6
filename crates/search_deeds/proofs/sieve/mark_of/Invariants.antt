-- the bits of the choices that the terms so far ask for
use Rattle.std.proofs.Common.{take}
use Rattle.refutation.specs.Terms.{terms_in}
use Rattle.search_deeds.specs.Sieved.{IsMarkOf}
use Rattle.search_deeds.proofs.sieve.mark_of.Given as goal

abbrev pub invariant-loop-term : goal.invariant-loop-term
invariant-loop-term l = IsMarkOf (take l.term-index (terms_in l.terms)) l.mark
