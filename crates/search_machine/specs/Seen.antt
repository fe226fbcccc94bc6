-- How contracts see a machine: the problem, the number of places, the state, and the number of Learn steps so far.
use Rattle.std.specs.Prelude.{ℕ, List, map, Option, option_map, IfSome}
use Rattle.ot_theory.specs.Hierarchies.{IsLeastHierarchy}
use Rattle.ot_theory.specs.Problems.{Problem}
use Rattle.ot_theory.specs.Languages.{conditions_of}
use Rattle.refutation.specs.Terms.{terms_in}
use Rattle.search_machine.specs.Machine as theory
use Rattle.search_machine.specs.declared.hand.Mark as marks
use Rattle.search_machine.specs.declared.hand.Mark.TheVariants as mark
use Rattle.search_machine.specs.declared.hand.Hand as hands

abbrev pub mark_seen : marks.Mark → theory.Mark
mark_seen mark.Unknown = theory.Mark.Unknown
mark_seen (mark.Open levels) = theory.Mark.Open
mark_seen (mark.Refuted found) = theory.Mark.Refuted (terms_in found.terms)

abbrev pub hand_seen : hands.Hand → theory.Hand
hand_seen hand = record { prefix = hand.prefix; cursor = hand.cursor; mark = mark_seen hand.mark }

abbrev pub hands_seen : List (Option hands.Hand) → List (Option theory.Hand)
hands_seen hands = map (option_map hand_seen) hands

-- The hierarchy of an open mark is the least one of what the prefix asks.
abbrev pub IsLeastFor : Problem → List ℕ → marks.Mark → Type 0
IsLeastFor problem prefix mark.Unknown = Unit {0}
IsLeastFor problem prefix (mark.Open levels) = IsLeastHierarchy problem.constraints (conditions_of problem prefix) levels
IsLeastFor problem prefix (mark.Refuted found) = Unit {0}

abbrev pub HasLeast : Problem → Option hands.Hand → Type 0
HasLeast problem hand = IfSome hand (λ held. IsLeastFor problem held.prefix held.mark)

pub record Progress : Type 0 where
  pub problem : Problem
  pub places : ℕ
  pub state : theory.State
  pub learns : ℕ
