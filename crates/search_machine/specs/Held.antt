-- What a hand holds, and how it is settled.
use Rattle.std.specs.Prelude.{◌≡◌, ℕ, ◌<◌, List, [], ◌∷◌, ◌++◌, length, flat_map}
use Rattle.ot_theory.specs.Problems.{Problem}
use Rattle.search_deeds.specs.Deeds as theory
use Rattle.search_deeds.specs.Deeds.{children, opened_by}
use Rattle.search_machine.specs.Machine.{Hand, IsFate}
use Rattle.search_deeds.specs.declared.deed.Deed as deeds
use Rattle.search_deeds.specs.declared.deed.Fate.TheVariants as fate
use Rattle.search_machine.specs.declared.hand.Mark as marks
use Rattle.search_machine.specs.declared.hand.Mark.TheVariants.{Unknown, Open, Refuted}

abbrev pub IsKnown : marks.Mark → Type 0
IsKnown Unknown = ⊥
IsKnown (Open levels) = Unit {0}
IsKnown (Refuted found) = Unit {0}

-- An opened prefix is no full choice.
abbrev pub IsOpenable : Problem → deeds.Deed → Type 0
IsOpenable problem deed = deed.fate ≡ fate.Opened → length deed.prefix < length problem.inputs

-- The deed of a prefix in a hand is added, and its children are behind the others in the outbox where it is opened.
pub record IsSettled (problem : Problem) (hand : Hand) (outbox after : List (List ℕ)) (deeds more : List theory.Deed) : Type 0 where
  pub fate : theory.Fate
  pub is_fate : IsFate problem hand.prefix hand.mark fate
  pub children : after ≡ outbox ++ flat_map (children problem) (opened_by hand.prefix fate)
  pub deed : more ≡ deeds ++ (record { prefix = hand.prefix; fate = fate }) ∷ []
