-- What is true of each state that the machine comes to.
use Rattle.std.specs.Prelude.{◌≡◌, ℕ, ◌+◌, Bool, true, false, List, [], ◌∷◌, ◌++◌, length, map, flat_map, count_by, Option, Some, None, All}
use Rattle.ot_theory.specs.Problems.{Problem}
use Rattle.ot_theory.specs.Languages.{refuted}
use Rattle.ot_theory.specs.Refutations.{is_contradiction, refutes}
use Rattle.violation_profiles.specs.WellFormed.{IsPrefix}
use Rattle.search_deeds.specs.Deeds.{Deed, AreHonest, children, opened_in}
use Rattle.search_machine.specs.Machine.{Hand, Mark, State}
use Rattle.search_machine.specs.Machine.Mark.{Unknown, Open, Refuted}

-- the prefix in a hand, if it holds one
abbrev pub held : Option Hand → List (List ℕ)
held None = []
held (Some hand) = hand.prefix ∷ []

-- the prefixes in queues, hands and outboxes
abbrev pub waiting : State → List (List ℕ)
waiting state = flat_map (λ queue. queue) state.queues ++ (flat_map held state.hands ++ flat_map (λ outbox. outbox) state.outboxes)

-- the deeds of all workers together
abbrev pub all_deeds : State → List Deed
all_deeds state = flat_map (λ deeds. deeds) state.deeds

-- The mark of a prefix is true of it: an open one holds under some ranking, and what refutes one is a contradiction that does.
abbrev pub IsTrueMark : Problem → List ℕ → Mark → Type 0
IsTrueMark problem prefix Unknown = Unit {0}
IsTrueMark problem prefix Open = refuted problem prefix ≡ false
IsTrueMark problem prefix (Refuted terms) = (is_contradiction problem terms ≡ true) × (refutes terms prefix ≡ true)

abbrev pub IsTrueHand : Problem → Option Hand → Type 0
IsTrueHand problem None = Unit {0}
IsTrueHand problem (Some hand) = IsPrefix problem hand.prefix × IsTrueMark problem hand.prefix hand.mark

-- The prefixes of deeds, queues, hands and outboxes together are the empty one and the children of each opened one, each as often:
-- as many of them pass any test.
abbrev pub AreTogether : Problem → List Deed → List (List ℕ) → Type 0
AreTogether problem deeds prefixes = (test : List ℕ → Bool)
    → count_by test (map (λ deed. deed.prefix) deeds) + count_by test prefixes ≡ count_by test ([] ∷ flat_map (children problem) (opened_in deeds))

-- The store holds contradictions of the problem, each mark is true of its prefix, each deed is honest, and the prefixes of deeds,
-- queues, hands and outboxes together are the empty one and the children of each opened one. What waits are prefixes of the problem,
-- and there is a hand for each queue, each outbox and each list of deeds.
pub record IsKept (problem : Problem) (state : State) : Type 0 where
  pub entries : All (λ terms. is_contradiction problem terms ≡ true) state.store
  pub marks : All (IsTrueHand problem) state.hands
  pub honest : All (AreHonest problem) state.deeds
  pub together : AreTogether problem (all_deeds state) (waiting state)
  pub queues : All (All (IsPrefix problem)) state.queues
  pub outboxes : All (All (IsPrefix problem)) state.outboxes
  pub as_many_queues : length state.queues ≡ length state.hands
  pub as_many_outboxes : length state.outboxes ≡ length state.hands
  pub as_many_deeds : length state.deeds ≡ length state.hands
