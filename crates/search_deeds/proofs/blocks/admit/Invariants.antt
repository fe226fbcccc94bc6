-- the rows so far admit the certificate, and none admits less than before
use Rattle.refutation.specs.Terms.{terms_in}
use Rattle.search_deeds.proofs.Admitting.{AreAdmitting}
use Rattle.search_deeds.proofs.blocks.admit.Given as goal

abbrev pub invariant-loop-k : goal.invariant-loop-k
invariant-loop-k l = AreAdmitting (terms_in l.terms) l.bit l.initial.rows l.rows l.k
