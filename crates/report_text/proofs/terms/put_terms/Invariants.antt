-- the first terms are written
use Rattle.std.proofs.Common.{◌≡◌, ◌++◌, take}
use Rattle.refutation.specs.Terms.{terms_in}
use Rattle.report_text.specs.Spelling.{terms}
use Rattle.report_text.proofs.terms.put_terms.Given as goal

abbrev pub invariant-loop-k : goal.invariant-loop-k
invariant-loop-k l = l.text ≡ l.initial.text ++ terms (take l.k (terms_in l.terms))
