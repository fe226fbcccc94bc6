use Rattle.std.proofs.Common.{◌≡◌, ◌++◌}
use Rattle.ot_theory.proofs.WinnerTerms.{terms_below}
use Rattle.refutation.specs.Terms.{terms_in}
use Rattle.refutation.proofs.winners.add_terms.Given as goal

-- the terms over the classes so far are added
abbrev pub invariant-loop-b : goal.invariant-loop-b
invariant-loop-b l = terms_in l.terms ≡ terms_in l.initial.terms ++ terms_below l.input.0 l.winner.0 l.b
