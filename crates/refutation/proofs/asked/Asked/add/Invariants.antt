-- the terms over the classes so far are added
use Rattle.std.proofs.Common.{◌++◌, List}
use Rattle.ot_theory.specs.Languages as theory
use Rattle.ot_theory.proofs.WinnerTerms.{terms_below}
use Rattle.refutation.specs.Asked.{AreAsked, Begins}
use Rattle.refutation.proofs.asked.Asked.add.Given as goal

abbrev pub invariant-loop-b : goal.invariant-loop-b
invariant-loop-b l = record {
  asked : (whole : List theory.Term) → AreAsked l.p whole l.initial.self.terms.items l.initial.self.conditions.items → AreAsked l.p (whole ++ terms_below l.input.0 l.winner.0 l.b) l.self.terms.items l.self.conditions.items;
  terms : Begins l.initial.self.terms.items l.self.terms.items;
  conditions : Begins l.initial.self.conditions.items l.self.conditions.items;
}
