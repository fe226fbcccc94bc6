-- Drawn steps, one more, and the end.
use Rattle.std.proofs.Common.{◌≡◌, ℕ, suc, ◌-◌, ◌^◌, ◌<◌, ◌≤◌, min, List, [], ◌∷◌, ◌++◌, Bool, true, false, not, ◌&&◌, ◌==◌, cond, arith, refl, sym, ◌∙◌, ap, subst, inl, inr, length, Option, Some, None}
use Rattle.std.specs.Prelude.{slice_get, count_by, is_none}
use Rattle.std.specs.List.{list_all}
use Rattle.std.specs.Option.{option_map_or}
use Rattle.std.proofs.lemmas.Bool.{and_from}
use Rattle.std.proofs.lemmas.List.{length-replicate}
use Rattle.std.proofs.lemmas.Bool.Decides.{eqb_tells}
use Rattle.std.proofs.lemmas.List.Sums.{sum_by_push}
use Rattle.std.proofs.lemmas.Option.{slice_get_within, slice_get-get_or}
use Rattle.ot_base.specs.Causes.{next_number}
use Rattle.number_draws.specs.Draws.{next_state}
use Rattle.ot_theory.specs.Problems.{Problem}
use Rattle.search_machine.specs.Machine.{Hand, Leads, State, is_empty, is_filled, is_holding, is_idle, is_learn, is_unknown, start}
use Rattle.search_machine.specs.Seen.{Progress}
use Rattle.search_machine.specs.declared.step.Step.{Step}
use Rattle.search_schedule.specs.Schedules.{AreDrawn, IsDrawn, IsRunOf, enabled_of, enabled_steps, learns_among}
use Rattle.search_schedule.proofs.Counting.{parts}
use Rattle.search_schedule.proofs.Places.{bit, flat-none}
use Rattle.search_schedule.proofs.Weights.{IsSized, lowers, sized, weight}

drawn-more : (problem : Problem) (places draws last : ℕ) (before between after : State) (steps : List Step) (step : Step) → AreDrawn problem places draws before steps last between → IsDrawn last between step → Leads problem places between step after
    → AreDrawn problem places draws before (steps ++ step ∷ []) (next_state last) after
drawn-more problem places draws last before between after [] step a d l =
    (after, subst (λ (s : State). IsDrawn draws s step) a.1 (subst (λ (k : ℕ). IsDrawn k between step) a.0 d), subst (λ (s : State). Leads problem places s step after) a.1 l, (ap next_state a.0, refl))
drawn-more problem places draws last before between after (first ∷ steps) step a d l =
    (a.0, a.1, a.2, drawn-more problem places (next_state draws) last a.0 between after steps step a.3 d l)

learns-more : (steps : List Step) (step : Step) → learns_among (steps ++ step ∷ []) ≡ cond (is_learn step) (next_number (learns_among steps)) (learns_among steps)
learns-more steps step = by (is_learn step) refl
  where
    by : (b : Bool) → is_learn step ≡ b → min (count_by is_learn (steps ++ step ∷ [])) (2 ^ 64 - 1) ≡ cond b (next_number (learns_among steps)) (learns_among steps)
    by true e = omega (arith, sum_by_push (λ x. bit (is_learn x)) steps step, ap bit e)
    by false e = omega (arith, sum_by_push (λ x. bit (is_learn x)) steps step, ap bit e)

-- A machine that has made the first steps of a schedule.
pub record IsUnderWay (posed : Problem) (workers room number draws : ℕ) (machine : Progress) : Type 0 where
  pub problem : machine.problem ≡ posed
  pub places : machine.places ≡ room
  pub size : IsSized workers room machine.state
  pub steps : List Step
  pub drawn : AreDrawn posed room number (start workers) steps draws machine.state
  pub counted : machine.learns ≡ learns_among steps

pub under-way-first : (problem : Problem) (workers places number : ℕ) (machine : Progress) → machine ≡ record { problem = problem; places = places; state = start workers; learns = 0 } → IsUnderWay problem workers places number number machine
under-way-first problem workers places number machine e =
    subst (IsUnderWay problem workers places number number) (sym e)
    (record {
      problem = refl;
      places = refl;
      size = record { hands = length-replicate workers (let x : Option Hand = None in x); room = omega arith };
      steps = [];
      drawn = (refl, refl);
      counted = refl;
    })

pub under-way-next : (problem : Problem) (workers places number draws : ℕ) (step : Step) (machine after : Progress) → IsUnderWay problem workers places number draws machine → IsDrawn draws machine.state step
    → Leads machine.problem machine.places machine.state step after.state → after.problem ≡ machine.problem → after.places ≡ machine.places → after.learns ≡ cond (is_learn step) (next_number machine.learns) machine.learns
    → IsUnderWay problem workers places number (next_state draws) after
under-way-next problem workers places number draws step machine after u d l p q n =
    let leads : Leads problem places machine.state step after.state = subst (λ (x : Problem). Leads x places machine.state step after.state) u.problem (subst (λ (x : ℕ). Leads machine.problem x machine.state step after.state) u.places l) in
    record {
      problem = p ∙ u.problem;
      places = q ∙ u.places;
      size = sized problem workers places machine.state step after.state u.size leads;
      steps = u.steps ++ step ∷ [];
      drawn = drawn-more problem places number draws (start workers) machine.state after.state u.steps step u.drawn d leads;
      counted = n ∙ ap (λ k. cond (is_learn step) (next_number k) k) u.counted ∙ sym (learns-more u.steps step);
    }

pub under-way-lowers : (problem : Problem) (workers places number draws : ℕ) (step : Step) (machine after : Progress) → IsUnderWay problem workers places number draws machine
    → Leads machine.problem machine.places machine.state step after.state → after.problem ≡ machine.problem → after.places ≡ machine.places
    → weight after.problem after.places after.state < weight machine.problem machine.places machine.state
under-way-lowers problem workers places number draws step machine after u l p q =
    let room : length machine.state.store ≤ machine.places = omega (arith, u.size.room, u.places) in
    subst (λ (x : Problem). weight x after.places after.state < weight machine.problem machine.places machine.state) (sym p)
    (subst (λ (x : ℕ). weight machine.problem x after.state < weight machine.problem machine.places machine.state) (sym q)
    (lowers machine.problem machine.places machine.state step after.state room l))

pub run-ended : (problem : Problem) (workers places number draws : ℕ) (machine : Progress) → IsUnderWay problem workers places number draws machine → enabled_steps machine.state ≡ [] → IsRunOf problem workers places number machine.state machine.learns
run-ended problem workers places number draws machine u e = record { steps = u.steps; last = draws; drawn = u.drawn; ended = e; counted = u.counted }

-- Where no step is enabled, all queues, hands and outboxes are empty.

all-places : {X : Type 0} (test : X → Bool) (xs : List X) → ((k : ℕ) (x : X) → slice_get xs k ≡ Some x → test x ≡ true) → list_all test xs ≡ true
all-places test [] h = refl
all-places test (x ∷ xs) h = and_from (test x) (list_all test xs) (h 0 x refl) (all-places test xs (λ k y e. h (suc k) y e))

none-at : (state : State) (w : ℕ) → enabled_steps state ≡ [] → w < length state.hands → length (enabled_of state w) ≡ 0
none-at state w e h = ap length (flat-none (enabled_of state) (length state.hands) w e h)

off : (b : Bool) → bit b ≡ 0 → b ≡ false
off true h = absurd (omega (arith, h))
off false h = refl

suc-nonzero : (n : ℕ) → (suc n == 0) ≡ false
suc-nonzero n = elim (eqb_tells (suc n) 0) [ inl same ↦ absurd (omega (arith, same.1)) | inr other ↦ other.0 ]

empty-list : (list : List (List ℕ)) → not (length list == 0) ≡ false → (length list == 0) ≡ true
empty-list [] h = refl
empty-list (x ∷ list) h = absurd (let e : true ≡ false = sym (ap not (suc-nonzero (length list))) ∙ h in cc)

no-hand : (state : State) (w : ℕ) (hand : Option Hand) → enabled_steps state ≡ [] → slice_get state.hands w ≡ Some hand → is_none hand ≡ true
no-hand state w None e h = refl
no-hand state w (Some hand) e h =
    let none = none-at state w e (slice_get_within state.hands w (Some hand) h) in
    let a : is_unknown hand.mark ≡ false = ap (λ (slot : Option (Option Hand)). option_map_or (λ (x : Option Hand). option_map_or (λ (y : Hand). is_unknown y.mark) x false) slot false) (sym h)
    ∙ off (is_holding (λ y. is_unknown y.mark) state.hands w) (omega (arith, none, parts state w)) in
    let b : not (is_unknown hand.mark) ≡ false = ap (λ (slot : Option (Option Hand)). option_map_or (λ (x : Option Hand). option_map_or (λ (y : Hand). not (is_unknown y.mark)) x false) slot false) (sym h)
    ∙ off (is_holding (λ y. not (is_unknown y.mark)) state.hands w) (omega (arith, none, parts state w)) in
    absurd (let d : true ≡ false = sym (ap not a) ∙ b in cc)

pub ended-empty : (state : State) → length state.queues ≡ length state.hands → length state.outboxes ≡ length state.hands → enabled_steps state ≡ [] → is_empty state ≡ true
ended-empty state queues outboxes e =
    and_from (list_all (λ queue. length queue == 0) state.queues) (list_all (λ hand. is_none hand) state.hands && list_all (λ outbox. length outbox == 0) state.outboxes)
    (all-places (λ queue. length queue == 0) state.queues no-queue)
    (and_from (list_all (λ hand. is_none hand) state.hands) (list_all (λ outbox. length outbox == 0) state.outboxes)
    (all-places (λ hand. is_none hand) state.hands (λ k hand h. no-hand state k hand e h))
    (all-places (λ outbox. length outbox == 0) state.outboxes no-outbox))
  where
    no-queue : (k : ℕ) (queue : List (List ℕ)) → slice_get state.queues k ≡ Some queue → (length queue == 0) ≡ true
    no-queue k queue q =
        let within : k < length state.hands = omega (arith, slice_get_within state.queues k queue q, queues) in
        let slot = slice_get-get_or state.hands k None within in
        let idle : is_idle state.hands k ≡ true = ap (λ (s : Option (Option Hand)). option_map_or (λ (x : Option Hand). is_none x) s false) slot ∙ no-hand state k _ e slot in
        let none : (is_idle state.hands k && is_filled state.queues k) ≡ false = off _ (omega (arith, none-at state k e within, parts state k)) in
        empty-list queue (ap (λ (slot : Option (List (List ℕ))). option_map_or (λ (list : List (List ℕ)). not (length list == 0)) slot false) (sym q) ∙ ap (λ b. b && is_filled state.queues k) (sym idle) ∙ none)

    no-outbox : (k : ℕ) (outbox : List (List ℕ)) → slice_get state.outboxes k ≡ Some outbox → (length outbox == 0) ≡ true
    no-outbox k outbox o =
        let within : k < length state.hands = omega (arith, slice_get_within state.outboxes k outbox o, outboxes) in
        empty-list outbox (ap (λ (slot : Option (List (List ℕ))). option_map_or (λ (list : List (List ℕ)). not (length list == 0)) slot false) (sym o) ∙ off (is_filled state.outboxes k) (omega (arith, none-at state k e within, parts state k)))
