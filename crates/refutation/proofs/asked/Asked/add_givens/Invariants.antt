-- the given pairs so far are added
use Rattle.std.proofs.Common.{◌++◌, List, map}
use Rattle.ot_theory.specs.Languages as theory
use Rattle.ot_theory.specs.Rankings.{numbers_below}
use Rattle.refutation.specs.Asked.{AreAsked}
use Rattle.refutation.proofs.asked.Asked.add_givens.Given as goal

abbrev pub invariant-loop-k : goal.invariant-loop-k
invariant-loop-k l = (whole : List theory.Term) → AreAsked l.p whole l.initial.self.terms.items l.initial.self.conditions.items → AreAsked l.p (whole ++ map theory.Given (numbers_below l.k)) l.self.terms.items l.self.conditions.items
