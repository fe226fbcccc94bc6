use Rattle.std.proofs.Common.{◌≡◌}
use Rattle.ot_theory.proofs.WinnerTerms.{winners_below}
use Rattle.refutation.specs.Terms.{terms_in}
use Rattle.refutation.proofs.winners.winner_terms.Given as goal

-- the terms of the winners of the inputs so far
abbrev pub invariant-loop-i : goal.invariant-loop-i
invariant-loop-i l = terms_in l.terms ≡ winners_below l.p l.i
