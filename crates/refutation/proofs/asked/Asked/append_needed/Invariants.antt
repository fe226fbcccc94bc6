-- the needed ones of the terms so far are added
use Rattle.std.proofs.Common.{◌++◌, List, take}
use Rattle.ot_theory.specs.Problems.{Problem}
use Rattle.ot_theory.specs.Languages as theory
use Rattle.refutation.specs.Asked.{AreAsked, Begins}
use Rattle.refutation.specs.Terms.{terms_in}
use Rattle.refutation.proofs.asked.Asked.append_needed.Given as goal

abbrev pub invariant-loop-k : goal.invariant-loop-k
invariant-loop-k l = record {
  asked : (problem : Problem) (whole others : List theory.Term) → AreAsked problem whole l.initial.self.terms.items l.initial.self.conditions.items → AreAsked problem others l.other.terms.items l.other.conditions.items
      → AreAsked problem (whole ++ terms_in (take l.k l.other.terms.items)) l.self.terms.items l.self.conditions.items;
  terms : Begins l.initial.self.terms.items l.self.terms.items;
  conditions : Begins l.initial.self.conditions.items l.self.conditions.items;
}
