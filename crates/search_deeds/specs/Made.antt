-- What the given pairs of a problem ask, and what the classes of its inputs ask, where it is made.
use Rattle.std.specs.Prelude.{[], All, IfSome}
use Rattle.ot_theory.specs.Problems.{Problem}
use Rattle.ot_theory.specs.Languages.{classes_at, terms_of, terms_of_class}
use Rattle.refutation.specs.Asked.{AreAsked}
use Rattle.search_deeds.specs.declared.ready.Entry.{Entry}
use Rattle.search_deeds.specs.declared.ready.Ready.{Ready}

abbrev pub IsMade : Problem → Entry → Type 0
IsMade problem entry = AreAsked problem (terms_of_class (classes_at problem entry.input.0) entry.input.0 entry.class.0) entry.asked.terms.items entry.asked.conditions.items

pub record AreMade (problem : Problem) (ready : Ready) : Type 0 where
  pub givens : AreAsked problem (terms_of problem []) ready.givens.terms.items ready.givens.conditions.items
  pub classes : All (λ place. IfSome place (IsMade problem)) ready.entries.items
