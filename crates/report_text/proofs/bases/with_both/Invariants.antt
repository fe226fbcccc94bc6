-- those of the first terms that are kept
use Rattle.std.proofs.Common.{◌≡◌, take}
use Rattle.refutation.specs.Terms.{terms_in}
use Rattle.report_text.specs.Listings.{with_both}
use Rattle.report_text.proofs.bases.with_both.Given as goal

abbrev pub invariant-loop-term : goal.invariant-loop-term
invariant-loop-term l = terms_in l.kept ≡ with_both l.p (terms_in (take l.term-index l.terms))
