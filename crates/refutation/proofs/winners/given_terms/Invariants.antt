use Rattle.std.proofs.Common.{◌≡◌, map}
use Rattle.ot_theory.specs.Languages.{Given}
use Rattle.ot_theory.specs.Rankings.{numbers_below}
use Rattle.refutation.specs.Terms.{terms_in}
use Rattle.refutation.proofs.winners.given_terms.Given as goal

-- the given pairs so far
abbrev pub invariant-loop-k : goal.invariant-loop-k
invariant-loop-k l = terms_in l.terms ≡ map Given (numbers_below l.k)
