-- What is true of each state stays true through every step.
use Rattle.std.proofs.Common.{◌≡◌, ℕ, zero, suc, ◌+◌, ◌<◌, List, [], ◌∷◌, ◌++◌, Bool, true, false, ◌&&◌, arith, refl, sym, ◌∙◌, ap, subst, cond, length, map, flat_map, set, replicate, Option, Some, None}
use Rattle.std.specs.Prelude.{All, slice_get, count_by, nat_lt}
use Rattle.std.proofs.lemmas.List.{length-set, length-replicate, map-append, append-nil}
use Rattle.std.proofs.lemmas.List.Concat.{flat_map-append}
use Rattle.std.proofs.lemmas.List.Elements.{All-set, All-append, All-push, All-head, All-tail, All-cons, All-nil}
use Rattle.std.proofs.lemmas.List.Sums.{sum_by-append, sum_by-cons}
use Rattle.ot_theory.specs.Problems.{Problem}
use Rattle.ot_theory.specs.Languages.{Term, refuted}
use Rattle.ot_theory.specs.Refutations.{is_contradiction}
use Rattle.violation_profiles.specs.WellFormed.{IsPrefix}
use Rattle.search_deeds.specs.Deeds.{Deed, Fate, AreHonest, IsTrueOf, children, opened_by, opened_in}
use Rattle.search_deeds.specs.Deeds.Fate.{Opened, Language, Cut}
use Rattle.search_machine.specs.Machine.{Hand, Mark, State, IsFate, in_hand, judged, own_certificate, start, store_with}
use Rattle.search_machine.specs.Machine.Mark.{Unknown, Open, Refuted}
use Rattle.search_machine.specs.Kept.{IsKept, IsTrueHand, IsTrueMark, all_deeds, held, waiting}
use Rattle.search_deeds.proofs.Children.{IsPrefix-children}
use Rattle.search_machine.proofs.Slots.{All-at, weight-set}

abbrev IsEntry : Problem → List Term → Type 0
IsEntry problem terms = is_contradiction problem terms ≡ true

-- how many prefixes pass a test

counted-append : (test : List ℕ → Bool) (a b : List (List ℕ)) → count_by test (a ++ b) ≡ count_by test a + count_by test b
counted-append test a b = sum_by-append (λ x. cond (test x) 1 0) a b

abbrev settled_count : (List ℕ → Bool) → List Deed → ℕ
settled_count test deeds = count_by test (map (λ deed. deed.prefix) deeds)

settled-append : (test : List ℕ → Bool) (a b : List Deed) → settled_count test (a ++ b) ≡ settled_count test a + settled_count test b
settled-append test a b = ap (count_by test) (map-append (λ (d : Deed). d.prefix) a b) ∙ counted-append test (map (λ (d : Deed). d.prefix) a) (map (λ (d : Deed). d.prefix) b)

abbrev children_count : Problem → (List ℕ → Bool) → List Deed → ℕ
children_count problem test deeds = count_by test (flat_map (children problem) (opened_in deeds))

children-append : (problem : Problem) (test : List ℕ → Bool) (a b : List Deed) → children_count problem test (a ++ b) ≡ children_count problem test a + children_count problem test b
children-append problem test a b =
    ap (λ (l : List (List ℕ)). count_by test (flat_map (children problem) l)) (flat_map-append (λ (d : Deed). opened_by d.prefix d.fate) a b)
    ∙ ap (count_by test) (flat_map-append (children problem) (opened_in a) (opened_in b))
    ∙ counted-append test (flat_map (children problem) (opened_in a)) (flat_map (children problem) (opened_in b))

waiting-count : (test : List ℕ → Bool) (state : State)
    → count_by test (waiting state) ≡ count_by test (flat_map (λ queue. queue) state.queues) + (count_by test (flat_map held state.hands) + count_by test (flat_map (λ outbox. outbox) state.outboxes))
waiting-count test state =
    counted-append test (flat_map (λ queue. queue) state.queues) (flat_map held state.hands ++ flat_map (λ outbox. outbox) state.outboxes)
    ∙ ap (λ n. count_by test (flat_map (λ queue. queue) state.queues) + n) (counted-append test (flat_map held state.hands) (flat_map (λ outbox. outbox) state.outboxes))

-- Take and Steal.
pub kept-picked : (problem : Problem) (state : State) (w v : ℕ) (front : List ℕ) (rest : List (List ℕ)) → slice_get state.queues v ≡ Some (front ∷ rest) → slice_get state.hands w ≡ Some None → IsKept problem state
    → IsKept problem (record state { queues = set state.queues v rest; hands = set state.hands w (Some (in_hand front)) })
kept-picked problem state w v front rest q h kept =
    let those : All (IsPrefix problem) (front ∷ rest) = All-at (All (IsPrefix problem)) state.queues v (front ∷ rest) kept.queues q in
    record {
      entries = kept.entries;
      marks = All-set (IsTrueHand problem) state.hands w (Some (in_hand front)) (All-head (IsPrefix problem) front rest those, tt) kept.marks;
      honest = kept.honest;
      together = λ test.
          let old = waiting-count test state in
          let new = waiting-count test (record state { queues = set state.queues v rest; hands = set state.hands w (Some (in_hand front)) }) in
          let a = weight-set (count_by test) (counted-append test) (λ queue. queue) state.queues v (front ∷ rest) rest q in
          let b = weight-set (count_by test) (counted-append test) held state.hands w None (Some (in_hand front)) h in
          let c = sum_by-cons (λ x. cond (test x) 1 0) front rest in
          let d = sum_by-cons (λ x. cond (test x) 1 0) front [] in
          let e = kept.together test in
          omega arith;
      queues = All-set (All (IsPrefix problem)) state.queues v rest (All-tail (IsPrefix problem) front rest those) kept.queues;
      outboxes = kept.outboxes;
      as_many_queues = omega (arith, kept.as_many_queues, length-set state.queues v rest, length-set state.hands w (Some (in_hand front)));
      as_many_outboxes = omega (arith, kept.as_many_outboxes, length-set state.hands w (Some (in_hand front)));
      as_many_deeds = omega (arith, kept.as_many_deeds, length-set state.hands w (Some (in_hand front)));
    }

-- The mark of a prefix in a hand changes, and the store may grow.
pub kept-marked : (problem : Problem) (state : State) (w : ℕ) (hand after : Hand) (store : List (List Term)) → slice_get state.hands w ≡ Some (Some hand) → after.prefix ≡ hand.prefix → IsTrueMark problem hand.prefix after.mark → All (IsEntry problem) store
    → IsKept problem state → IsKept problem (record state { hands = set state.hands w (Some after); store = store })
kept-marked problem state w hand after store h same true_mark entries kept =
    let p : IsTrueHand problem (Some hand) = All-at (IsTrueHand problem) state.hands w (Some hand) kept.marks h in
    record {
      entries = entries;
      marks = All-set (IsTrueHand problem) state.hands w (Some after) (rw same (p.0, true_mark)) kept.marks;
      honest = kept.honest;
      together = λ test.
          let old = waiting-count test state in
          let new = waiting-count test (record state { hands = set state.hands w (Some after); store = store }) in
          let a = weight-set (count_by test) (counted-append test) held state.hands w (Some hand) (Some after) h in
          let b = ap (λ (x : List ℕ). count_by test (x ∷ [])) same in
          let e = kept.together test in
          omega arith;
      queues = kept.queues;
      outboxes = kept.outboxes;
      as_many_queues = omega (arith, kept.as_many_queues, length-set state.hands w (Some after));
      as_many_outboxes = omega (arith, kept.as_many_outboxes, length-set state.hands w (Some after));
      as_many_deeds = omega (arith, kept.as_many_deeds, length-set state.hands w (Some after));
    }

-- The certificate of a refuted prefix goes into the store.
pub stored-entries : (problem : Problem) (places : ℕ) (store : List (List Term)) (prefix : List ℕ) → IsTrueMark problem prefix (judged problem prefix) → All (λ terms. is_contradiction problem terms ≡ true) store
    → All (λ terms. is_contradiction problem terms ≡ true) (store_with problem places store prefix)
stored-entries problem places store prefix t all = by (refuted problem prefix) (nat_lt (length store) places) t
  where
    by : (b room : Bool) → IsTrueMark problem prefix (cond b (Refuted (own_certificate problem prefix)) Open) → All (IsEntry problem) (cond (b && room) (store ++ own_certificate problem prefix ∷ []) store)
    by true true t = All-push (IsEntry problem) store (own_certificate problem prefix) all t.0
    by true false t = all
    by false room t = all

-- Settle.
pub true-fate : (problem : Problem) (prefix : List ℕ) (mark : Mark) (fate : Fate) → IsTrueMark problem prefix mark → IsFate problem prefix mark fate → IsTrueOf problem prefix fate
true-fate problem prefix Unknown fate t h = absurd h
true-fate problem prefix (Refuted terms) fate t h = subst (IsTrueOf problem prefix) (sym h) t
true-fate problem prefix Open Opened t h = (t, h)
true-fate problem prefix Open (Language levels) t h = (t, h.0, h.1)
true-fate problem prefix Open (Cut terms) t h = absurd h

opened-prefixes : (problem : Problem) (prefix : List ℕ) (fate : Fate) → IsPrefix problem prefix → IsTrueOf problem prefix fate → All (IsPrefix problem) (flat_map (children problem) (opened_by prefix fate))
opened-prefixes problem prefix Opened p t = rw (append-nil (children problem prefix)) (IsPrefix-children problem prefix p t.1)
opened-prefixes problem prefix (Language levels) p t = All-nil (IsPrefix problem)
opened-prefixes problem prefix (Cut terms) p t = All-nil (IsPrefix problem)

abbrev pub with_deed : Problem → State → ℕ → Hand → Fate → List (List ℕ) → List Deed → State
with_deed problem state w hand fate outbox deeds = record state {
  hands = set state.hands w None;
  outboxes = set state.outboxes w (outbox ++ flat_map (children problem) (opened_by hand.prefix fate));
  deeds = set state.deeds w (deeds ++ (record { prefix = hand.prefix; fate = fate }) ∷ []);
}

pub kept-settled : (problem : Problem) (state : State) (w : ℕ) (hand : Hand) (fate : Fate) (outbox : List (List ℕ)) (deeds : List Deed) → slice_get state.hands w ≡ Some (Some hand) → slice_get state.outboxes w ≡ Some outbox
    → slice_get state.deeds w ≡ Some deeds → IsFate problem hand.prefix hand.mark fate → IsKept problem state → IsKept problem (with_deed problem state w hand fate outbox deeds)
kept-settled problem state w hand fate outbox deeds h o d f kept =
    let here : IsTrueHand problem (Some hand) = All-at (IsTrueHand problem) state.hands w (Some hand) kept.marks h in
    let t : IsTrueOf problem hand.prefix fate = true-fate problem hand.prefix hand.mark fate here.1 f in
    let opens : List (List ℕ) = flat_map (children problem) (opened_by hand.prefix fate) in
    let deed : Deed = record { prefix = hand.prefix; fate = fate } in
    let before : All (IsPrefix problem) outbox = All-at (All (IsPrefix problem)) state.outboxes w outbox kept.outboxes o in
    let honest : AreHonest problem deeds = All-at (AreHonest problem) state.deeds w deeds kept.honest d in
    record {
      entries = kept.entries;
      marks = All-set (IsTrueHand problem) state.hands w None tt kept.marks;
      honest = All-set (AreHonest problem) state.deeds w (deeds ++ deed ∷ []) (All-push (λ (x : Deed). IsTrueOf problem x.prefix x.fate) deeds deed honest t) kept.honest;
      together = λ test.
          let old = waiting-count test state in
          let new = waiting-count test (with_deed problem state w hand fate outbox deeds) in
          let a = weight-set (count_by test) (counted-append test) held state.hands w (Some hand) None h in
          let b = weight-set (count_by test) (counted-append test) (λ x. x) state.outboxes w outbox (outbox ++ opens) o in
          let c = counted-append test outbox opens in
          let e = weight-set (settled_count test) (settled-append test) (λ x. x) state.deeds w deeds (deeds ++ deed ∷ []) d in
          let g = settled-append test deeds (deed ∷ []) in
          let i = weight-set (children_count problem test) (children-append problem test) (λ x. x) state.deeds w deeds (deeds ++ deed ∷ []) d in
          let j = children-append problem test deeds (deed ∷ []) in
          let k = ap (λ (l : List (List ℕ)). count_by test (flat_map (children problem) l)) (append-nil (opened_by hand.prefix fate)) in
          let m = sum_by-cons (λ x. cond (test x) 1 0) [] (flat_map (children problem) (opened_in (all_deeds state))) in
          let n = sum_by-cons (λ x. cond (test x) 1 0) [] (flat_map (children problem) (opened_in (all_deeds (with_deed problem state w hand fate outbox deeds)))) in
          let q = kept.together test in
          omega arith;
      queues = kept.queues;
      outboxes = All-set (All (IsPrefix problem)) state.outboxes w (outbox ++ opens) (All-append (IsPrefix problem) outbox opens before (opened-prefixes problem hand.prefix fate here.0 t)) kept.outboxes;
      as_many_queues = omega (arith, kept.as_many_queues, length-set state.hands w None);
      as_many_outboxes = omega (arith, kept.as_many_outboxes, length-set state.hands w None, length-set state.outboxes w (outbox ++ opens));
      as_many_deeds = omega (arith, kept.as_many_deeds, length-set state.hands w None, length-set state.deeds w (deeds ++ deed ∷ []));
    }

-- Put.
pub kept-posted : (problem : Problem) (state : State) (w : ℕ) (front : List ℕ) (rest queue : List (List ℕ)) → slice_get state.outboxes w ≡ Some (front ∷ rest) → slice_get state.queues w ≡ Some queue → IsKept problem state
    → IsKept problem (record state { queues = set state.queues w (queue ++ front ∷ []); outboxes = set state.outboxes w rest })
kept-posted problem state w front rest queue o q kept =
    let those : All (IsPrefix problem) (front ∷ rest) = All-at (All (IsPrefix problem)) state.outboxes w (front ∷ rest) kept.outboxes o in
    let before : All (IsPrefix problem) queue = All-at (All (IsPrefix problem)) state.queues w queue kept.queues q in
    record {
      entries = kept.entries;
      marks = kept.marks;
      honest = kept.honest;
      together = λ test.
          let old = waiting-count test state in
          let new = waiting-count test (record state { queues = set state.queues w (queue ++ front ∷ []); outboxes = set state.outboxes w rest }) in
          let a = weight-set (count_by test) (counted-append test) (λ x. x) state.queues w queue (queue ++ front ∷ []) q in
          let b = weight-set (count_by test) (counted-append test) (λ x. x) state.outboxes w (front ∷ rest) rest o in
          let c = counted-append test queue (front ∷ []) in
          let d = sum_by-cons (λ x. cond (test x) 1 0) front rest in
          let d' = sum_by-cons (λ x. cond (test x) 1 0) front [] in
          let e = kept.together test in
          omega arith;
      queues = All-set (All (IsPrefix problem)) state.queues w (queue ++ front ∷ []) (All-push (IsPrefix problem) queue front before (All-head (IsPrefix problem) front rest those)) kept.queues;
      outboxes = All-set (All (IsPrefix problem)) state.outboxes w rest (All-tail (IsPrefix problem) front rest those) kept.outboxes;
      as_many_queues = omega (arith, kept.as_many_queues, length-set state.queues w (queue ++ front ∷ []));
      as_many_outboxes = omega (arith, kept.as_many_outboxes, length-set state.outboxes w rest);
      as_many_deeds = kept.as_many_deeds;
    }

-- At the start.
nothing-waits : (n : ℕ) → flat_map (λ (queue : List (List ℕ)). queue) (replicate n []) ≡ []
nothing-waits zero = refl
nothing-waits (suc n) = nothing-waits n

nothing-held : (n : ℕ) → flat_map held (replicate n None) ≡ []
nothing-held zero = refl
nothing-held (suc n) = nothing-held n

no-deeds : (n : ℕ) → flat_map (λ (deeds : List Deed). deeds) (replicate n []) ≡ []
no-deeds zero = refl
no-deeds (suc n) = no-deeds n

pub all-alike : {X : Type 0} (P : X → Type 0) (n : ℕ) (x : X) → P x → All P (replicate n x)
all-alike P zero x h = All-nil P
all-alike P (suc n) x h = All-cons P x (replicate n x) h (all-alike P n x h)

pub kept-start : (problem : Problem) (workers : ℕ) → 0 < workers → IsKept problem (start workers)
kept-start problem zero h = absurd (omega arith)
kept-start problem (suc n) h = record {
  entries = All-nil (IsEntry problem);
  marks = all-alike (IsTrueHand problem) (suc n) None tt;
  honest = all-alike (AreHonest problem) (suc n) [] (All-nil (λ (d : Deed). IsTrueOf problem d.prefix d.fate));
  together = λ test.
      let a = waiting-count test (start (suc n)) in
      let b = ap (count_by test) (nothing-waits n) in
      let c = ap (count_by test) (nothing-held n) in
      let d = ap (settled_count test) (no-deeds n) in
      let e = ap (children_count problem test) (no-deeds n) in
      let f = sum_by-cons (λ (x : List ℕ). cond (test x) 1 0) [] (flat_map (λ (queue : List (List ℕ)). queue) (replicate n [])) in
      let g = sum_by-cons (λ (x : List ℕ). cond (test x) 1 0) [] (flat_map (children problem) (opened_in (all_deeds (start (suc n))))) in
      omega arith;
  queues = All-cons (All (IsPrefix problem)) ([] ∷ []) (replicate n []) (All-cons (IsPrefix problem) [] [] (record { short = omega arith; within = λ i before. absurd (omega arith) }) (All-nil (IsPrefix problem))) (all-alike (All (IsPrefix problem)) n [] (All-nil (IsPrefix problem)));
  outboxes = all-alike (All (IsPrefix problem)) (suc n) [] (All-nil (IsPrefix problem));
  as_many_queues = omega (arith, length-replicate n (let x : List (List ℕ) = [] in x), length-replicate n (let x : Option Hand = None in x));
  as_many_outboxes = omega (arith, length-replicate (suc n) (let x : List (List ℕ) = [] in x), length-replicate (suc n) (let x : Option Hand = None in x));
  as_many_deeds = omega (arith, length-replicate (suc n) (let x : List Deed = [] in x), length-replicate (suc n) (let x : Option Hand = None in x));
}
