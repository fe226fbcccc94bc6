-- The machine of the search: its state, its steps, and the runs of lists of steps.
--
-- Workers share out the prefixes of choices. Each has a queue of prefixes, a hand, an outbox of prefixes and a list of deeds, and
-- all of them share a store of contradictions. In what order the workers make their steps is left open.
use Rattle.std.specs.Prelude.{◌≡◌, ℕ, ◌+◌, ◌<◌, Bool, true, false, not, ◌&&◌, ◌==◌, nat_lt, List, [], ◌∷◌, ◌++◌, length, take, drop, flat_map, slice_get, slice_index_or, slice_set, replicate, Option, Some, None, option_map, is_none, if◌then◌else◌}
use Rattle.std.specs.List.{list_all}
use Rattle.std.specs.Option.{option_map_or}
use Rattle.ot_theory.specs.Hierarchies.{IsLeastHierarchy}
use Rattle.ot_theory.specs.Problems.{Problem}
use Rattle.ot_theory.specs.Languages.{Term, conditions_of, refuted, terms_of}
use Rattle.ot_theory.specs.Refutations.{certificate_of, refutes}
use Rattle.search_deeds.specs.Deeds.{Deed, Fate, children, opened_by}
use Rattle.search_deeds.specs.Deeds.Fate.{Opened, Language, Cut}
use Rattle.search_machine.specs.declared.step.Step.{Step}
use Rattle.search_machine.specs.declared.step.Step.TheVariants.{Take, Steal, Consult, Learn, Settle, Put}

-- what is known of the prefix in a hand: nothing, that it holds under some ranking, or terms that refute it
pub data Mark : Type 0 where
  Unknown : Mark
  Open : Mark
  Refuted : List Term → Mark

-- a prefix in a hand, the number of entries of the store that were consulted for it, and its mark
pub record Hand : Type 0 where
  pub prefix : List ℕ
  pub cursor : ℕ
  pub mark : Mark

-- for each worker its queue, its hand, its outbox and its deeds; and the store
pub record State : Type 0 where
  pub queues : List (List (List ℕ))
  pub hands : List (Option Hand)
  pub outboxes : List (List (List ℕ))
  pub deeds : List (List Deed)
  pub store : List (List Term)

-- At the start the queue of worker 0 holds the empty prefix, and all else is empty.
abbrev pub start : ℕ → State
start workers = record {
  queues = slice_set (replicate workers []) 0 ([] ∷ []);
  hands = replicate workers None;
  outboxes = replicate workers [];
  deeds = replicate workers [];
  store = [];
}

-- Which steps are enabled. No worker past the last one has a hand, a queue or an outbox.

abbrev pub is_unknown : Mark → Bool
is_unknown Unknown = true
is_unknown Open = false
is_unknown (Refuted terms) = false

-- the hand of this worker is empty
abbrev pub is_idle : List (Option Hand) → ℕ → Bool
is_idle hands w = option_map_or (λ hand. is_none hand) (slice_get hands w) false

-- the hand of this worker holds something that passes a test
abbrev pub is_holding : (Hand → Bool) → List (Option Hand) → ℕ → Bool
is_holding test hands w = option_map_or (λ hand. option_map_or test hand false) (slice_get hands w) false

-- this worker's of some lists is not empty
abbrev pub is_filled : List (List (List ℕ)) → ℕ → Bool
is_filled lists w = option_map_or (λ list. not (length list == 0)) (slice_get lists w) false

abbrev pub is_enabled : State → Step → Bool
is_enabled state (Take w) = is_idle state.hands w && is_filled state.queues w
is_enabled state (Steal w v) = not (v == w) && (is_idle state.hands w && is_filled state.queues v)
is_enabled state (Consult w) = is_holding (λ hand. is_unknown hand.mark && nat_lt hand.cursor (length state.store)) state.hands w
is_enabled state (Learn w) = is_holding (λ hand. is_unknown hand.mark) state.hands w
is_enabled state (Settle w) = is_holding (λ hand. not (is_unknown hand.mark)) state.hands w
is_enabled state (Put w) = is_filled state.outboxes w

-- What each step makes of a state.

-- a prefix that has just come into a hand
abbrev pub in_hand : List ℕ → Hand
in_hand prefix = record { prefix = prefix; cursor = 0; mark = Unknown }

-- Take and Steal: the front of the queue of v goes into the hand of w.
abbrev pub picked : State → ℕ → ℕ → State
picked state w v =
    let queue = slice_index_or state.queues v [] in
    record state {
      queues = slice_set state.queues v (drop 1 queue);
      hands = slice_set state.hands w (option_map in_hand (slice_get queue 0));
    }

-- what is done with the hand of a worker that holds something
abbrev pub with_hand : (Hand → State) → State → ℕ → State
with_hand change state w = option_map_or change (slice_index_or state.hands w None) state

-- Consult: the cursor rises by one. If the entry passed refutes the prefix, the mark becomes Refuted with it.
abbrev pub passing : List Term → Hand → Hand
passing entry hand = record hand { cursor = hand.cursor + 1; mark = if refutes entry hand.prefix then Refuted entry else hand.mark }

abbrev pub consulted : State → ℕ → State
consulted state w = with_hand (λ hand. record state { hands = slice_set state.hands w (Some (passing (slice_index_or state.store hand.cursor []) hand)) }) state w

-- Learn: the mark becomes Open if the prefix holds under some ranking. Otherwise it becomes Refuted with the prefix's certificate,
-- which is appended to the store if the store has fewer entries than its places.
abbrev pub own_certificate : Problem → List ℕ → List Term
own_certificate problem prefix = certificate_of problem (terms_of problem prefix)

abbrev pub judged : Problem → List ℕ → Mark
judged problem prefix = if refuted problem prefix then Refuted (own_certificate problem prefix) else Open

abbrev pub judging : Problem → Hand → Hand
judging problem hand = record hand { mark = judged problem hand.prefix }

abbrev pub store_with : Problem → ℕ → List (List Term) → List ℕ → List (List Term)
store_with problem places store prefix = if refuted problem prefix && nat_lt (length store) places then store ++ own_certificate problem prefix ∷ [] else store

abbrev pub learnt : Problem → ℕ → State → ℕ → State
learnt problem places state w =
    with_hand
    (λ hand. record state {
      hands = slice_set state.hands w (Some (judging problem hand));
      store = store_with problem places state.store hand.prefix;
    })
    state w

-- Settle: one deed is added and the hand becomes empty. The children of an opened prefix are added to the outbox in class order.
abbrev pub settled : Problem → State → ℕ → Fate → State
settled problem state w fate =
    with_hand
    (λ hand. record state {
      hands = slice_set state.hands w None;
      outboxes = slice_set state.outboxes w (slice_index_or state.outboxes w [] ++ flat_map (children problem) (opened_by hand.prefix fate));
      deeds = slice_set state.deeds w (slice_index_or state.deeds w [] ++ (record { prefix = hand.prefix; fate = fate }) ∷ []);
    })
    state w

-- A Refuted hand gives Cut with its contradiction. An Open hand gives Language with the least hierarchy where its prefix is a full
-- choice, and Opened where it is shorter.
abbrev pub IsFate : Problem → List ℕ → Mark → Fate → Type 0
IsFate problem prefix Unknown fate = ⊥
IsFate problem prefix (Refuted terms) fate = fate ≡ Cut terms
IsFate problem prefix Open Opened = length prefix < length problem.inputs
IsFate problem prefix Open (Language levels) =
    (length prefix ≡ length problem.inputs) × IsLeastHierarchy problem.constraints (conditions_of problem prefix) levels
IsFate problem prefix Open (Cut terms) = ⊥

-- the fate of what the hand of a worker holds
abbrev pub IsFateOf : Problem → State → ℕ → Fate → Type 0
IsFateOf problem state w fate = (hand : Hand) → slice_get state.hands w ≡ Some (Some hand) → IsFate problem hand.prefix hand.mark fate

-- Put: the front of the outbox goes to the back of the queue.
abbrev pub posted : State → ℕ → State
posted state w =
    let outbox = slice_index_or state.outboxes w [] in
    record state {
      queues = slice_set state.queues w (slice_index_or state.queues w [] ++ take 1 outbox);
      outboxes = slice_set state.outboxes w (drop 1 outbox);
    }

-- What a step that is enabled makes of a state. There is one such state: five steps are functions of the state, and the fate of a
-- prefix is determined by its mark, since a set of conditions has one least hierarchy.
abbrev pub IsAfter : Problem → ℕ → State → Step → State → Type 0
IsAfter problem places before (Take w) after = after ≡ picked before w w
IsAfter problem places before (Steal w v) after = after ≡ picked before w v
IsAfter problem places before (Consult w) after = after ≡ consulted before w
IsAfter problem places before (Learn w) after = after ≡ learnt problem places before w
IsAfter problem places before (Settle w) after = (fate : Fate) × IsFateOf problem before w fate × (after ≡ settled problem before w fate)
IsAfter problem places before (Put w) after = after ≡ posted before w

-- the step is enabled, and leads to this state
pub record Leads (problem : Problem) (places : ℕ) (before : State) (step : Step) (after : State) : Type 0 where
  pub enabled : is_enabled before step ≡ true
  pub made : IsAfter problem places before step after

-- The run of a list of steps: each is enabled when its turn comes.
abbrev pub LeadAll : Problem → ℕ → State → List Step → State → Type 0
LeadAll problem places before [] after = after ≡ before
LeadAll problem places before (step ∷ steps) after = (between : State) × Leads problem places before step between × LeadAll problem places between steps after

-- A state is finished where no step is enabled.
abbrev pub IsFinished : State → Type 0
IsFinished state = (step : Step) → is_enabled state step ≡ false

-- All queues, hands and outboxes are empty.
abbrev pub is_empty : State → Bool
is_empty state =
    list_all (λ queue. length queue == 0) state.queues && (list_all (λ hand. is_none hand) state.hands && list_all (λ outbox. length outbox == 0) state.outboxes)

-- Learn steps
abbrev pub is_learn : Step → Bool
is_learn (Learn w) = true
is_learn _ = false
