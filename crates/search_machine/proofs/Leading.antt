-- Each list of steps keeps what is true of the states.
use Rattle.std.proofs.Common.{◌≡◌, ℕ, ◌<◌, List, [], ◌∷◌, ◌++◌, Bool, true, false, not, ◌&&◌, arith, refl, sym, ◌∙◌, ap, subst, cond, length, get_or, set, take, drop, Option, Some, None}
use Rattle.std.specs.Prelude.{slice_get, nat_lt, option_map}
use Rattle.std.specs.Option.{option_map_or}
use Rattle.std.proofs.lemmas.Bool.{and_parts, ltb-true}
use Rattle.std.proofs.lemmas.Option.{get_or_from_slice_get, slice_get_within, slice_get-get_or}
use Rattle.ot_theory.specs.Problems.{Problem}
use Rattle.ot_theory.specs.Languages.{Term, refuted, terms_of}
use Rattle.ot_theory.proofs.Certificates.{certificate-contradiction}
use Rattle.ot_theory.proofs.Optimal.{refuted-conditions}
use Rattle.violation_profiles.specs.WellFormed.{IsPrefix, IsWellFormed}
use Rattle.violation_profiles.proofs.Inputs.{AllFit-prefix}
use Rattle.refutation.proofs.TermsOfPrefixes.{certificate-refutes, made-one, terms_of-genuine, terms_of-made}
use Rattle.search_deeds.specs.Deeds.{Fate}
use Rattle.search_machine.specs.Machine.{Hand, LeadAll, Leads, State, in_hand, is_unknown, judged, judging, own_certificate, passing, picked, start, store_with}
use Rattle.search_machine.specs.Machine.Mark.{Open, Refuted}
use Rattle.search_machine.specs.Kept.{IsKept, IsTrueHand, IsTrueMark}
use Rattle.search_machine.specs.Standing.{IsReachedBy}
use Rattle.search_machine.specs.declared.step.Step.{Step}
use Rattle.search_machine.specs.declared.step.Step.TheVariants.{Take, Steal, Consult, Learn, Settle, Put}
use Rattle.search_machine.proofs.Slots.{All-at, Filled, Filled-from, Holds-from, idle-here}
use Rattle.search_machine.proofs.StepsKeep.{kept-marked, kept-picked, kept-posted, kept-settled, kept-start, stored-entries, with_deed}
use Rattle.search_machine.proofs.Machines.{passed-mark}

-- The certificate of a refuted prefix is a contradiction that refutes it.
true-judged : (problem : Problem) (prefix : List ℕ) → IsWellFormed problem → IsPrefix problem prefix → IsTrueMark problem prefix (judged problem prefix)
true-judged problem prefix well p = by (refuted problem prefix) refl
  where
    by : (b : Bool) → refuted problem prefix ≡ b → IsTrueMark problem prefix (cond b (Refuted (own_certificate problem prefix)) Open)
    by true e = (
      certificate-contradiction problem (terms_of problem prefix) (terms_of-genuine problem prefix p) (made-one prefix (terms_of problem prefix) (terms_of-made problem prefix)) (sym (refuted-conditions problem prefix (AllFit-prefix problem prefix well p)) ∙ e),
      certificate-refutes problem prefix (own_certificate problem prefix) refl,
    )
    by false e = e

leads-picked : (problem : Problem) (state : State) (w v : ℕ) → slice_get state.hands w ≡ Some None → Filled state.queues v → IsKept problem state → IsKept problem (picked state w v)
leads-picked problem state w v h f kept =
    subst (IsKept problem)
    (sym (ap (λ (q : List (List ℕ)). record state { queues = set state.queues v (drop 1 q); hands = set state.hands w (option_map in_hand (slice_get q 0)) }) (get_or_from_slice_get state.queues v (f.front ∷ f.rest) [] f.here)))
    (kept-picked problem state w v f.front f.rest f.here h kept)

with-hand : (change : Hand → State) (state : State) (w : ℕ) (hand : Hand) → slice_get state.hands w ≡ Some (Some hand) → option_map_or change (get_or state.hands w None) state ≡ change hand
with-hand change state w hand h = ap (λ (o : Option Hand). option_map_or change o state) (get_or_from_slice_get state.hands w (Some hand) None h)

pub Leads-keep : (problem : Problem) (places : ℕ) (before : State) (step : Step) (after : State) → IsWellFormed problem → IsKept problem before → Leads problem places before step after → IsKept problem after
Leads-keep problem places before (Take w) after well kept l =
    let both = and_parts _ _ l.enabled in
    subst (IsKept problem) (sym l.made) (leads-picked problem before w w (idle-here before.hands w both.0) (Filled-from before.queues w both.1) kept)
Leads-keep problem places before (Steal w v) after well kept l =
    let both = and_parts _ _ (and_parts _ _ l.enabled).1 in
    subst (IsKept problem) (sym l.made) (leads-picked problem before w v (idle-here before.hands w both.0) (Filled-from before.queues v both.1) kept)
Leads-keep problem places before (Consult w) after well kept l =
    let h = Holds-from (λ hand. is_unknown hand.mark && nat_lt hand.cursor (length before.store)) before.hands w l.enabled in
    let cursor : h.hand.cursor < length before.store = ltb-true _ _ (and_parts _ _ h.passes).1 in
    let entry : List Term = get_or before.store h.hand.cursor [] in
    let mine : IsTrueHand problem (Some h.hand) = All-at (IsTrueHand problem) before.hands w (Some h.hand) kept.marks h.here in
    subst (IsKept problem) (sym (l.made ∙ with-hand (λ hand. record before { hands = set before.hands w (Some (passing (get_or before.store hand.cursor []) hand)) }) before w h.hand h.here))
    (kept-marked problem before w h.hand (passing entry h.hand) before.store h.here refl (passed-mark problem h.hand.prefix h.hand.mark entry (kept.entries h.hand.cursor [] cursor) mine.1) kept.entries kept)
Leads-keep problem places before (Learn w) after well kept l =
    let h = Holds-from (λ hand. is_unknown hand.mark) before.hands w l.enabled in
    let mine : IsTrueHand problem (Some h.hand) = All-at (IsTrueHand problem) before.hands w (Some h.hand) kept.marks h.here in
    let genuine = true-judged problem h.hand.prefix well mine.0 in
    subst (IsKept problem)
    (sym (l.made ∙ with-hand (λ hand. record before { hands = set before.hands w (Some (judging problem hand)); store = store_with problem places before.store hand.prefix }) before w h.hand h.here))
    (kept-marked problem before w h.hand (judging problem h.hand) (store_with problem places before.store h.hand.prefix) h.here refl genuine (stored-entries problem places before.store h.hand.prefix genuine kept.entries) kept)
Leads-keep problem places before (Settle w) after well kept l =
    let h = Holds-from (λ hand. not (is_unknown hand.mark)) before.hands w l.enabled in
    let fate : Fate = l.made.0 in
    let within = slice_get_within before.hands w (Some h.hand) h.here in
    let box = slice_get-get_or before.outboxes w [] (omega (arith, within, kept.as_many_outboxes)) in
    let list = slice_get-get_or before.deeds w [] (omega (arith, within, kept.as_many_deeds)) in
    subst (IsKept problem) (sym (l.made.2 ∙ with-hand (λ hand. with_deed problem before w hand fate (get_or before.outboxes w []) (get_or before.deeds w [])) before w h.hand h.here))
    (kept-settled problem before w h.hand fate (get_or before.outboxes w []) (get_or before.deeds w []) h.here box list (l.made.1 h.hand h.here) kept)
Leads-keep problem places before (Put w) after well kept l =
    let f = Filled-from before.outboxes w l.enabled in
    let within : w < length before.queues = omega (arith, slice_get_within before.outboxes w (f.front ∷ f.rest) f.here, kept.as_many_queues, kept.as_many_outboxes) in
    let here = slice_get-get_or before.queues w [] within in
    subst (IsKept problem)
    (sym (l.made ∙ ap (λ (o : List (List ℕ)). record before { queues = set before.queues w (get_or before.queues w [] ++ take 1 o); outboxes = set before.outboxes w (drop 1 o) }) (get_or_from_slice_get before.outboxes w (f.front ∷ f.rest) [] f.here)))
    (kept-posted problem before w f.front f.rest (get_or before.queues w []) f.here here kept)

run-keeps : (problem : Problem) (places : ℕ) (before : State) (steps : List Step) (after : State) → IsWellFormed problem → IsKept problem before → LeadAll problem places before steps after → IsKept problem after
run-keeps problem places before [] after well kept e = subst (IsKept problem) (sym e) kept
run-keeps problem places before (step ∷ steps) after well kept r =
    run-keeps problem places r.0 steps after well (Leads-keep problem places before step r.0 well kept r.1) r.2

pub reached-kept : (problem : Problem) (workers places : ℕ) (steps : List Step) (state : State) → IsReachedBy problem workers places steps state → IsKept problem state
reached-kept problem workers places steps state r = run-keeps problem places (start workers) steps state r.well_formed (kept-start problem workers (omega (arith, r.some))) r.run
