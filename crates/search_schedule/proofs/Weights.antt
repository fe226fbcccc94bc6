-- A weight of all that waits in a state. Each step lowers it.
use Rattle.std.proofs.Common.{◌≡◌, ℕ, zero, suc, ◌+◌, ◌-◌, ◌<◌, ◌≤◌, List, [], ◌∷◌, ◌++◌, Bool, true, false, not, ◌&&◌, cond, arith, refl, sym, ◌∙◌, ap, subst, length, length-append, map, flat_map, get_or, set, take, drop, Option, Some, None}
use Rattle.std.specs.Prelude.{slice_get, nat_lt, option_map}
use Rattle.std.specs.List.{sum_by}
use Rattle.std.specs.Option.{option_map_or}
use Rattle.std.proofs.lemmas.Bool.{and_parts, ltb-true}
use Rattle.std.proofs.lemmas.List.{append-nil, length-set}
use Rattle.std.proofs.lemmas.List.Sums.{sum_by-append, sum_by-cons}
use Rattle.std.proofs.lemmas.Option.{get_or_from_slice_get}
use Rattle.ot_theory.specs.Rankings.{numbers_below}
use Rattle.ot_theory.specs.Problems.{Problem}
use Rattle.ot_theory.specs.Languages.{Term, classes_at, refuted}
use Rattle.ot_theory.specs.Refutations.{refutes}
use Rattle.search_deeds.specs.Deeds.{Deed, Fate, children, opened_by}
use Rattle.search_deeds.specs.Deeds.Fate.{Opened, Language, Cut}
use Rattle.search_machine.specs.Machine.{Hand, IsFate, Leads, Mark, State, in_hand, is_unknown, judged, judging, own_certificate, passing, picked, store_with}
use Rattle.search_machine.specs.Machine.Mark.{Unknown, Open, Refuted}
use Rattle.search_machine.specs.declared.step.Step.{Step}
use Rattle.search_machine.specs.declared.step.Step.TheVariants.{Take, Steal, Consult, Learn, Settle, Put}
use Rattle.search_machine.proofs.Slots.{Filled, Filled-from, Holds-from, idle-here, weight-set}

-- What the children of a prefix weigh in an outbox, with all that may come below them, where n classes more may come.
unfoldable pub below : Problem → ℕ → ℕ → List ℕ → ℕ
below problem places zero prefix = 0
below problem places (suc n) prefix = sum_by (λ child. below problem places n child + (places + 4)) (children problem prefix)

abbrev pub left_below : Problem → ℕ → List ℕ → ℕ
left_below problem places prefix = below problem places (length problem.inputs - length prefix) prefix

-- What a prefix weighs in an outbox, in a queue, and in a hand.
abbrev pub in_outbox : Problem → ℕ → List ℕ → ℕ
in_outbox problem places prefix = left_below problem places prefix + (places + 4)

abbrev pub in_queue : Problem → ℕ → List ℕ → ℕ
in_queue problem places prefix = left_below problem places prefix + (places + 3)

-- An unknown prefix weighs less the more entries were consulted for it, and one that is known the least.
abbrev pub of_mark : ℕ → Mark → ℕ → ℕ
of_mark places Unknown cursor = places - cursor + 2
of_mark places Open cursor = 1
of_mark places (Refuted terms) cursor = 1

abbrev pub held : Problem → ℕ → Hand → ℕ
held problem places hand = left_below problem places hand.prefix + of_mark places hand.mark hand.cursor

abbrev hand_in : Option Hand → List Hand
hand_in None = []
hand_in (Some hand) = hand ∷ []

abbrev pub weight : Problem → ℕ → State → ℕ
weight problem places state =
    sum_by (in_queue problem places) (flat_map (λ queue. queue) state.queues)
    + (sum_by (held problem places) (flat_map hand_in state.hands) + sum_by (in_outbox problem places) (flat_map (λ outbox. outbox) state.outboxes))

-- more in one of some lists, if there is that one
grown : (f : List ℕ → ℕ) (lists : List (List (List ℕ))) (w : ℕ) (more : List (List ℕ))
    → sum_by f (flat_map (λ list. list) (set lists w (get_or lists w [] ++ more))) ≤ sum_by f (flat_map (λ list. list) lists) + sum_by f more
grown f [] w more = omega arith
grown f (list ∷ lists) zero more =
    let rest : List (List ℕ) = flat_map (λ (l : List (List ℕ)). l) lists in
    omega (arith, sum_by-append f (list ++ more) rest, sum_by-append f list more, sum_by-append f list rest)
grown f (list ∷ lists) (suc w) more =
    let rest : List (List ℕ) = flat_map (λ (l : List (List ℕ)). l) lists in
    let after : List (List ℕ) = flat_map (λ (l : List (List ℕ)). l) (set lists w (get_or lists w [] ++ more)) in
    omega (arith, sum_by-append f list after, sum_by-append f list rest, grown f lists w more)

-- Take and Steal.
picked-lower : (problem : Problem) (places : ℕ) (state : State) (w v : ℕ) (front : List ℕ) (rest : List (List ℕ)) → slice_get state.queues v ≡ Some (front ∷ rest) → slice_get state.hands w ≡ Some None
    → weight problem places (record state { queues = set state.queues v rest; hands = set state.hands w (Some (in_hand front)) }) < weight problem places state
picked-lower problem places state w v front rest q h =
    let f = in_queue problem places in
    let g = held problem places in
    omega (
      arith,
      weight-set (sum_by f) (sum_by-append f) (λ queue. queue) state.queues v (front ∷ rest) rest q,
      weight-set (sum_by g) (sum_by-append g) hand_in state.hands w None (Some (in_hand front)) h,
      sum_by-cons f front rest,
      sum_by-cons g (in_hand front) [],
    )

-- Consult and Learn.
hand-lower : (problem : Problem) (places : ℕ) (state : State) (w : ℕ) (hand after : Hand) (store : List (List Term)) → slice_get state.hands w ≡ Some (Some hand) → held problem places after < held problem places hand
    → weight problem places (record state { hands = set state.hands w (Some after); store = store }) < weight problem places state
hand-lower problem places state w hand after store h less =
    let g = held problem places in
    omega (arith, weight-set (sum_by g) (sum_by-append g) hand_in state.hands w (Some hand) (Some after) h, sum_by-cons g hand [], sum_by-cons g after [])

passed-lower : (places : ℕ) (refuting : Bool) (entry : List Term) (mark : Mark) (cursor : ℕ) → is_unknown mark ≡ true → cursor < places → of_mark places (cond refuting (Refuted entry) mark) (cursor + 1) < of_mark places mark cursor
passed-lower places true entry Unknown cursor u h = omega arith
passed-lower places false entry Unknown cursor u h = omega arith
passed-lower places refuting entry Open cursor u h = absurd (cc)
passed-lower places refuting entry (Refuted terms) cursor u h = absurd (cc)

judged-lower : (problem : Problem) (places : ℕ) (prefix : List ℕ) (mark : Mark) (cursor : ℕ) → is_unknown mark ≡ true → of_mark places (judged problem prefix) cursor < of_mark places mark cursor
judged-lower problem places prefix Unknown cursor u = by (refuted problem prefix)
  where
    by : (b : Bool) → of_mark places (cond b (Refuted (own_certificate problem prefix)) Open) cursor < places - cursor + 2
    by true = omega arith
    by false = omega arith
judged-lower problem places prefix Open cursor u = absurd (cc)
judged-lower problem places prefix (Refuted terms) cursor u = absurd (cc)

known-one : (places : ℕ) (mark : Mark) (cursor : ℕ) → not (is_unknown mark) ≡ true → of_mark places mark cursor ≡ 1
known-one places Unknown cursor k = absurd (cc)
known-one places Open cursor k = refl
known-one places (Refuted terms) cursor k = refl

-- Settle.
children-weigh : (problem : Problem) (places n : ℕ) (prefix : List ℕ) (classes : List ℕ) → n + 1 + length prefix ≡ length problem.inputs
    → sum_by (λ child. below problem places n child + (places + 4)) (map (λ a. prefix ++ a ∷ []) classes) ≡ sum_by (in_outbox problem places) (map (λ a. prefix ++ a ∷ []) classes)
children-weigh problem places n prefix [] e = refl
children-weigh problem places n prefix (a ∷ classes) e =
    let child : List ℕ = prefix ++ a ∷ [] in
    let left : n ≡ length problem.inputs - length child = omega (arith, length-append prefix (a ∷ [])) in
    omega (
      arith,
      sum_by-cons (λ (c : List ℕ). below problem places n c + (places + 4)) child (map (λ a. prefix ++ a ∷ []) classes),
      sum_by-cons (in_outbox problem places) child (map (λ a. prefix ++ a ∷ []) classes),
      ap (λ k. below problem places k child) left,
      children-weigh problem places n prefix classes e,
    )

below-next : (problem : Problem) (places n m : ℕ) (prefix : List ℕ) → m ≡ suc n → below problem places m prefix ≡ sum_by (λ child. below problem places n child + (places + 4)) (children problem prefix)
unfolding below
below-next problem places n zero prefix e = absurd (omega arith)
below-next problem places n (suc m) prefix e = let same : m ≡ n = omega arith in ap (λ k. sum_by (λ child. below problem places k child + (places + 4)) (children problem prefix)) same

opened-weigh : (problem : Problem) (places : ℕ) (prefix : List ℕ) → length prefix < length problem.inputs → left_below problem places prefix ≡ sum_by (in_outbox problem places) (children problem prefix)
opened-weigh problem places prefix short =
    let n = length problem.inputs - length prefix - 1 in
    below-next problem places n (length problem.inputs - length prefix) prefix (omega arith) ∙ children-weigh problem places n prefix (numbers_below (length (classes_at problem (length prefix)))) (omega arith)

fate-weighs : (problem : Problem) (places : ℕ) (prefix : List ℕ) (mark : Mark) (fate : Fate) → IsFate problem prefix mark fate → sum_by (in_outbox problem places) (flat_map (children problem) (opened_by prefix fate)) ≤ left_below problem places prefix
fate-weighs problem places prefix Unknown fate h = absurd h
fate-weighs problem places prefix (Refuted terms) fate h = subst (λ (f : Fate). sum_by (in_outbox problem places) (flat_map (children problem) (opened_by prefix f)) ≤ left_below problem places prefix) (sym h) (omega arith)
fate-weighs problem places prefix Open Opened h = omega (arith, ap (sum_by (in_outbox problem places)) (append-nil (children problem prefix)), opened-weigh problem places prefix h)
fate-weighs problem places prefix Open (Language levels) h = omega arith
fate-weighs problem places prefix Open (Cut terms) h = absurd h

settled-lower : (problem : Problem) (places : ℕ) (state : State) (w : ℕ) (hand : Hand) (fate : Fate) (deeds : List (List Deed)) → slice_get state.hands w ≡ Some (Some hand) → not (is_unknown hand.mark) ≡ true → IsFate problem hand.prefix hand.mark fate
    → weight problem places (record state { hands = set state.hands w None; outboxes = set state.outboxes w (get_or state.outboxes w [] ++ flat_map (children problem) (opened_by hand.prefix fate)); deeds = deeds }) < weight problem places state
settled-lower problem places state w hand fate deeds h known f =
    let g = held problem places in
    omega (
      arith,
      weight-set (sum_by g) (sum_by-append g) hand_in state.hands w (Some hand) None h,
      sum_by-cons g hand [],
      known-one places hand.mark hand.cursor known,
      grown (in_outbox problem places) state.outboxes w (flat_map (children problem) (opened_by hand.prefix fate)),
      fate-weighs problem places hand.prefix hand.mark fate f,
    )

-- Put.
posted-lower : (problem : Problem) (places : ℕ) (state : State) (w : ℕ) (front : List ℕ) (rest : List (List ℕ)) → slice_get state.outboxes w ≡ Some (front ∷ rest)
    → weight problem places (record state { queues = set state.queues w (get_or state.queues w [] ++ front ∷ []); outboxes = set state.outboxes w rest }) < weight problem places state
posted-lower problem places state w front rest o =
    let f = in_queue problem places in
    let g = in_outbox problem places in
    omega (arith, grown f state.queues w (front ∷ []), sum_by-cons f front [], weight-set (sum_by g) (sum_by-append g) (λ outbox. outbox) state.outboxes w (front ∷ rest) rest o, sum_by-cons g front rest)

with-hand : (change : Hand → State) (state : State) (w : ℕ) (hand : Hand) → slice_get state.hands w ≡ Some (Some hand) → option_map_or change (get_or state.hands w None) state ≡ change hand
with-hand change state w hand h = ap (λ (o : Option Hand). option_map_or change o state) (get_or_from_slice_get state.hands w (Some hand) None h)

picks-lower : (problem : Problem) (places : ℕ) (state : State) (w v : ℕ) → slice_get state.hands w ≡ Some None → Filled state.queues v → weight problem places (picked state w v) < weight problem places state
picks-lower problem places state w v h f =
    subst (λ (s : State). weight problem places s < weight problem places state)
    (sym (ap (λ (q : List (List ℕ)). record state { queues = set state.queues v (drop 1 q); hands = set state.hands w (option_map in_hand (slice_get q 0)) }) (get_or_from_slice_get state.queues v (f.front ∷ f.rest) [] f.here)))
    (picked-lower problem places state w v f.front f.rest f.here h)

-- Where the store has no more entries than its places, each step lowers the weight.
pub lowers : (problem : Problem) (places : ℕ) (before : State) (step : Step) (after : State) → length before.store ≤ places → Leads problem places before step after → weight problem places after < weight problem places before
lowers problem places before (Take w) after room l =
    let both = and_parts _ _ l.enabled in
    subst (λ (s : State). weight problem places s < weight problem places before) (sym l.made) (picks-lower problem places before w w (idle-here before.hands w both.0) (Filled-from before.queues w both.1))
lowers problem places before (Steal w v) after room l =
    let both = and_parts _ _ (and_parts _ _ l.enabled).1 in
    subst (λ (s : State). weight problem places s < weight problem places before) (sym l.made) (picks-lower problem places before w v (idle-here before.hands w both.0) (Filled-from before.queues v both.1))
lowers problem places before (Consult w) after room l =
    let h = Holds-from (λ hand. is_unknown hand.mark && nat_lt hand.cursor (length before.store)) before.hands w l.enabled in
    let both = and_parts _ _ h.passes in
    let cursor : h.hand.cursor < length before.store = ltb-true _ _ both.1 in
    let entry : List Term = get_or before.store h.hand.cursor [] in
    let less = passed-lower places (refutes entry h.hand.prefix) entry h.hand.mark h.hand.cursor both.0 (omega (arith, cursor, room)) in
    subst (λ (s : State). weight problem places s < weight problem places before)
    (sym (l.made ∙ with-hand (λ hand. record before { hands = set before.hands w (Some (passing (get_or before.store hand.cursor []) hand)) }) before w h.hand h.here))
    (hand-lower problem places before w h.hand (passing entry h.hand) before.store h.here (omega (arith, less)))
lowers problem places before (Learn w) after room l =
    let h = Holds-from (λ hand. is_unknown hand.mark) before.hands w l.enabled in
    let less = judged-lower problem places h.hand.prefix h.hand.mark h.hand.cursor h.passes in
    subst (λ (s : State). weight problem places s < weight problem places before)
    (sym (l.made ∙ with-hand (λ hand. record before { hands = set before.hands w (Some (judging problem hand)); store = store_with problem places before.store hand.prefix }) before w h.hand h.here))
    (hand-lower problem places before w h.hand (judging problem h.hand) (store_with problem places before.store h.hand.prefix) h.here (omega (arith, less)))
lowers problem places before (Settle w) after room l =
    let h = Holds-from (λ hand. not (is_unknown hand.mark)) before.hands w l.enabled in
    let fate : Fate = l.made.0 in
    let deeds = λ (hand : Hand). set before.deeds w (get_or before.deeds w [] ++ (let d : Deed = record { prefix = hand.prefix; fate = fate } in d) ∷ []) in
    subst (λ (s : State). weight problem places s < weight problem places before)
    (sym (l.made.2 ∙ with-hand (λ hand. record before { hands = set before.hands w None; outboxes = set before.outboxes w (get_or before.outboxes w [] ++ flat_map (children problem) (opened_by hand.prefix fate)); deeds = deeds hand }) before w h.hand h.here))
    (settled-lower problem places before w h.hand fate (deeds h.hand) h.here h.passes (l.made.1 h.hand h.here))
lowers problem places before (Put w) after room l =
    let f = Filled-from before.outboxes w l.enabled in
    subst (λ (s : State). weight problem places s < weight problem places before)
    (sym (l.made ∙ ap (λ (o : List (List ℕ)). record before { queues = set before.queues w (get_or before.queues w [] ++ take 1 o); outboxes = set before.outboxes w (drop 1 o) }) (get_or_from_slice_get before.outboxes w (f.front ∷ f.rest) [] f.here)))
    (posted-lower problem places before w f.front f.rest f.here)

-- As many hands stay, and no step puts more into the store than there are places.
pub record IsSized (workers places : ℕ) (state : State) : Type 0 where
  pub hands : length state.hands ≡ workers
  pub room : length state.store ≤ places

stored-room : (problem : Problem) (places : ℕ) (store : List (List Term)) (prefix : List ℕ) → length store ≤ places → length (store_with problem places store prefix) ≤ places
stored-room problem places store prefix room = by (refuted problem prefix) (nat_lt (length store) places) refl
  where
    by : (b less : Bool) → nat_lt (length store) places ≡ less → length (cond (b && less) (store ++ own_certificate problem prefix ∷ []) store) ≤ places
    by true true e = omega (arith, length-append store (own_certificate problem prefix ∷ []), ltb-true _ _ e)
    by true false e = room
    by false less e = room

pub sized : (problem : Problem) (workers places : ℕ) (before : State) (step : Step) (after : State) → IsSized workers places before → Leads problem places before step after → IsSized workers places after
sized problem workers places before (Take w) after is l =
    subst (IsSized workers places) (sym l.made) (record { hands = length-set before.hands w (option_map in_hand (slice_get (get_or before.queues w []) 0)) ∙ is.hands; room = is.room })
sized problem workers places before (Steal w v) after is l =
    subst (IsSized workers places) (sym l.made) (record { hands = length-set before.hands w (option_map in_hand (slice_get (get_or before.queues v []) 0)) ∙ is.hands; room = is.room })
sized problem workers places before (Consult w) after is l = subst (IsSized workers places) (sym l.made) (by (get_or before.hands w None))
  where
    by : (hand : Option Hand) → IsSized workers places (option_map_or (λ hand. record before { hands = set before.hands w (Some (passing (get_or before.store hand.cursor []) hand)) }) hand before)
    by None = is
    by (Some hand) = record { hands = length-set before.hands w (Some (passing (get_or before.store hand.cursor []) hand)) ∙ is.hands; room = is.room }
sized problem workers places before (Learn w) after is l = subst (IsSized workers places) (sym l.made) (by (get_or before.hands w None))
  where
    by : (hand : Option Hand) → IsSized workers places (option_map_or (λ hand. record before { hands = set before.hands w (Some (judging problem hand)); store = store_with problem places before.store hand.prefix }) hand before)
    by None = is
    by (Some hand) = record { hands = length-set before.hands w (Some (judging problem hand)) ∙ is.hands; room = stored-room problem places before.store hand.prefix is.room }
sized problem workers places before (Settle w) after is l = subst (IsSized workers places) (sym l.made.2) (by (get_or before.hands w None))
  where
    by : (hand : Option Hand) → IsSized workers places (option_map_or (λ (hand : Hand). record before { hands = set before.hands w None; outboxes = set before.outboxes w (get_or before.outboxes w [] ++ flat_map (children problem) (opened_by hand.prefix l.made.0)); deeds = set before.deeds w (get_or before.deeds w [] ++ (record { prefix = hand.prefix; fate = l.made.0 }) ∷ []) }) hand before)
    by None = is
    by (Some hand) = record { hands = length-set before.hands w None ∙ is.hands; room = is.room }
sized problem workers places before (Put w) after is l = subst (IsSized workers places) (sym l.made) (record { hands = is.hands; room = is.room })
