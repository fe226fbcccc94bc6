-- The rounds of one worker: what a round makes of a queue, and how many of its steps are Learn steps.
use Rattle.std.proofs.Common.{◌≡◌, ℕ, suc, ◌+◌, List, [], ◌∷◌, ◌++◌, Bool, true, false, arith, refl, sym, ◌∙◌, ap, subst, cond, inl, inr, length, length-append, append_assoc, flat_map, get_or, Option, Some, None}
use Rattle.std.specs.Prelude.{count_by}
use Rattle.std.specs.List.{list_any}
use Rattle.std.proofs.lemmas.Bool.{cases_Bool, le-ltb, lt-ltb, ne_eqb}
use Rattle.std.proofs.lemmas.List.{append-nil}
use Rattle.std.proofs.lemmas.List.Sums.{sum_by-append}
use Rattle.ot_theory.specs.Problems.{Problem}
use Rattle.ot_theory.specs.Languages.{Term, refuted}
use Rattle.ot_theory.specs.Refutations.{refutes}
use Rattle.search_deeds.specs.Deeds.{Deed, Fate, children, opened_by}
use Rattle.search_deeds.specs.Deeds.Fate.{Cut}
use Rattle.search_machine.specs.Machine.{Hand, IsFate, Leads, Mark, State, in_hand, is_learn, is_unknown, judging, own_certificate, passing, store_with}
use Rattle.search_machine.specs.Machine.Mark.{Unknown, Open, Refuted}
use Rattle.search_machine.specs.declared.step.Step.{Step}
use Rattle.search_machine.specs.declared.step.Step.TheVariants.{Take, Consult, Learn, Settle, Put}
use Rattle.search_schedule.proofs.Places.{bit}
use Rattle.typology_core.specs.Rounds.{IsRepeated, IsRound}

-- the state of one worker
abbrev pub lone : List (List ℕ) → Option Hand → List (List ℕ) → List Deed → List (List Term) → State
lone queue hand outbox deeds store = record { queues = queue ∷ []; hands = hand ∷ []; outboxes = outbox ∷ []; deeds = deeds ∷ []; store = store }

-- between two rounds
abbrev pub resting : List (List ℕ) → List Deed → List (List Term) → State
resting queue deeds store = lone queue None [] deeds store

-- some entry of the store refutes the prefix
abbrev pub is_hit : List (List Term) → List ℕ → Bool
is_hit store prefix = list_any (λ terms. refutes terms prefix) store

at_front : {X : Type 0} (front : List X) (x d : X) (rest : List X) → get_or (front ++ x ∷ rest) (length front) d ≡ x
at_front [] x d rest = refl
at_front (y ∷ front) x d rest = at_front front x d rest

record Consulted (problem : Problem) (places : ℕ) (queue : List (List ℕ)) (prefix : List ℕ) (deeds : List Deed) (store : List (List Term)) (cursor : ℕ) (rest : List (List Term)) : Type 0 where
  steps : List Step
  passed : ℕ
  mark : Mark
  terms : List Term
  made : IsRepeated problem places (Consult 0) (lone queue (Some (record { prefix = prefix; cursor = cursor; mark = Unknown })) [] deeds store) steps (lone queue (Some (record { prefix = prefix; cursor = passed; mark = mark })) [] deeds store)
  hit : is_hit rest prefix ≡ true → mark ≡ Refuted terms
  missed : is_hit rest prefix ≡ false → mark ≡ Unknown
  quiet : count_by is_learn steps ≡ 0

consults : (problem : Problem) (places : ℕ) (queue : List (List ℕ)) (prefix : List ℕ) (deeds : List Deed) (store : List (List Term)) (cursor : ℕ) (front rest : List (List Term)) → cursor ≡ length front → store ≡ front ++ rest
    → Consulted problem places queue prefix deeds store cursor rest
consults problem places queue prefix deeds store cursor front [] c e = record {
  steps = [];
  passed = cursor;
  mark = Unknown;
  terms = [];
  made = (le-ltb cursor (length store) (omega (arith, c, ap (λ (l : List (List Term)). length l) e, length-append front [])), refl);
  hit = λ h. absurd (let no : false ≡ true = h in cc);
  missed = λ h. refl;
  quiet = refl;
}
consults problem places queue prefix deeds store cursor front (entry ∷ rest) c e =
    let hand : Hand = record { prefix = prefix; cursor = cursor; mark = Unknown } in
    let before : State = lone queue (Some hand) [] deeds store in
    let here : get_or store cursor [] ≡ entry = rw (e, c) (at_front front entry [] rest) in
    let enabled = lt-ltb cursor (length store) (omega (arith, c, ap (λ (l : List (List Term)). length l) e, length-append front (entry ∷ rest))) in
    let passes : (next : Hand) → next ≡ passing entry hand → Leads problem places before (Consult 0) (lone queue (Some next) [] deeds store) =
    λ next same. record { enabled = enabled; made = ap (λ (h : Hand). lone queue (Some h) [] deeds store) (same ∙ ap (λ (t : List Term). passing t hand) (sym here)) } in
    elim (cases_Bool (refutes entry prefix)) [
      | inl h ↦ record {
        steps = Consult 0 ∷ [];
        passed = cursor + 1;
        mark = Refuted entry;
        terms = entry;
        made = (refl, lone queue (Some (record { prefix = prefix; cursor = cursor + 1; mark = Refuted entry })) [] deeds store, passes (record { prefix = prefix; cursor = cursor + 1; mark = Refuted entry }) (rw h refl), (refl, refl));
        hit = λ any. refl;
        missed = λ none. absurd (let no : true ≡ false = rw h at none in cc);
        quiet = refl;
      }
      | inr h ↦
          let more = consults problem places queue prefix deeds store (cursor + 1) (front ++ entry ∷ []) rest (omega (arith, c, length-append front (entry ∷ []))) (e ∙ sym (append_assoc front (entry ∷ []) rest)) in
          record {
            steps = Consult 0 ∷ more.steps;
            passed = more.passed;
            mark = more.mark;
            terms = more.terms;
            made = (refl, lone queue (Some (record { prefix = prefix; cursor = cursor + 1; mark = Unknown })) [] deeds store, passes (record { prefix = prefix; cursor = cursor + 1; mark = Unknown }) (rw h refl), more.made);
            hit = λ any. more.hit (rw h at any);
            missed = λ none. more.missed (rw h at none);
            quiet = more.quiet;
          }
    ]

record Posted (problem : Problem) (places : ℕ) (queue outbox : List (List ℕ)) (deeds : List Deed) (store : List (List Term)) : Type 0 where
  steps : List Step
  made : IsRepeated problem places (Put 0) (lone queue None outbox deeds store) steps (resting (queue ++ outbox) deeds store)
  quiet : count_by is_learn steps ≡ 0

puts : (problem : Problem) (places : ℕ) (queue outbox : List (List ℕ)) (deeds : List Deed) (store : List (List Term)) → Posted problem places queue outbox deeds store
puts problem places queue [] deeds store = record { steps = []; made = (refl, ap (λ (q : List (List ℕ)). resting q deeds store) (append-nil queue)); quiet = refl }
puts problem places queue (front ∷ outbox) deeds store =
    let more = puts problem places (queue ++ front ∷ []) outbox deeds store in
    record {
      steps = Put 0 ∷ more.steps;
      made = (
        refl,
        lone (queue ++ front ∷ []) None outbox deeds store,
        record { enabled = rw (ne_eqb (suc (length outbox)) 0 (λ e. omega (arith, e))) refl; made = refl },
        subst (λ (q : List (List ℕ)). IsRepeated problem places (Put 0) (lone (queue ++ front ∷ []) None outbox deeds store) more.steps (resting q deeds store)) (append_assoc queue (front ∷ []) outbox) more.made,
      );
      quiet = more.quiet;
    }

-- A hand whose mark is known is settled, and its children go to the back of the queue.
record Settled (problem : Problem) (places : ℕ) (queue : List (List ℕ)) (hand : Hand) (deeds : List Deed) (store : List (List Term)) (kids : List (List ℕ)) : Type 0 where
  settled : State
  more : List Deed
  steps : List Step
  settle : Leads problem places (lone queue (Some hand) [] deeds store) (Settle 0) settled
  put : IsRepeated problem places (Put 0) settled steps (resting (queue ++ kids) more store)
  quiet : count_by is_learn steps ≡ 0

settles : (problem : Problem) (places : ℕ) (queue : List (List ℕ)) (hand : Hand) (deeds : List Deed) (store : List (List Term)) (kids : List (List ℕ)) (fate : Fate) → is_unknown hand.mark ≡ false → IsFate problem hand.prefix hand.mark fate
    → flat_map (children problem) (opened_by hand.prefix fate) ≡ kids → Settled problem places queue hand deeds store kids
settles problem places queue hand deeds store kids fate known is below =
    let more : List Deed = deeds ++ record { prefix = hand.prefix; fate = fate } ∷ [] in
    let posted = puts problem places queue kids more store in
    record {
      settled = lone queue None kids more store;
      more = more;
      steps = posted.steps;
      settle = record {
        enabled = rw known refl;
        made = (
          fate,
          λ other e. subst (λ (h : Hand). IsFate problem h.prefix h.mark fate) (let same : hand ≡ other = cc in same) is,
          ap (λ (o : List (List ℕ)). lone queue None o more store) (sym below),
        );
      };
      put = posted.made;
      quiet = posted.quiet;
    }

-- What a round makes of a queue, a store and a prefix whose children are these if it holds.
pub record Rounded (problem : Problem) (places : ℕ) (prefix : List ℕ) (queue : List (List ℕ)) (deeds : List Deed) (store : List (List Term)) (kids : List (List ℕ)) : Type 0 where
  pub steps : List Step
  pub more : List Deed
  pub made : IsRound problem places (resting (prefix ∷ queue) deeds store) steps (resting (queue ++ kids) more (cond (is_hit store prefix) store (store_with problem places store prefix)))
  pub counted : count_by is_learn steps ≡ cond (is_hit store prefix) 0 1

counts : (consulted learnt put : List Step) (n : ℕ) → count_by is_learn consulted ≡ 0 → count_by is_learn learnt ≡ n → count_by is_learn put ≡ 0 → count_by is_learn (Take 0 ∷ consulted ++ (learnt ++ Settle 0 ∷ put)) ≡ n
counts consulted learnt put n a b c =
    omega (arith, sum_by-append (λ s. bit (is_learn s)) consulted (learnt ++ Settle 0 ∷ put), sum_by-append (λ s. bit (is_learn s)) learnt (Settle 0 ∷ put), a, b, c)

-- the prefix holds and has a fate with these children, or it is refuted and has none
pub record HasFate (problem : Problem) (prefix : List ℕ) (kids : List (List ℕ)) : Type 0 where
  pub fate : Fate
  pub is : IsFate problem prefix Open fate
  pub below : flat_map (children problem) (opened_by prefix fate) ≡ kids

pub rounded : (problem : Problem) (places : ℕ) (prefix : List ℕ) (queue : List (List ℕ)) (deeds : List Deed) (store : List (List Term)) (kids : List (List ℕ))
    → (is_hit store prefix ≡ true → refuted problem prefix ≡ true) → (refuted problem prefix ≡ true → kids ≡ []) → (refuted problem prefix ≡ false → HasFate problem prefix kids)
    → Rounded problem places prefix queue deeds store kids
rounded problem places prefix queue deeds store kids sound closed opened = elim (cases_Bool (is_hit store prefix)) [
  | inl hit ↦
      let hand : Hand = record { prefix = prefix; cursor = tried.passed; mark = tried.mark } in
      let mark : tried.mark ≡ Refuted tried.terms = tried.hit hit in
      let known : is_unknown tried.mark ≡ false = rw mark refl in
      let rest = settles problem places queue hand deeds store kids (Cut tried.terms) known (rw mark refl) (sym (closed (sound hit))) in
      record {
        steps = Take 0 ∷ tried.steps ++ ([] ++ Settle 0 ∷ rest.steps);
        more = rest.more;
        made = rw hit (record {
          taken = lone queue (Some (in_hand prefix)) [] deeds store;
          consulted = lone queue (Some hand) [] deeds store;
          learnt = lone queue (Some hand) [] deeds store;
          settled = rest.settled;
          consults = tried.steps;
          learns = [];
          puts = rest.steps;
          take = record { enabled = rw (ne_eqb (suc (length queue)) 0 (λ e. omega (arith, e))) refl; made = refl };
          consult = tried.made;
          learn = (known, refl);
          settle = rest.settle;
          put = rest.put;
          whole = refl;
        });
        counted = rw hit (counts tried.steps [] rest.steps 0 tried.quiet refl rest.quiet);
      }
  | inr miss ↦
      let hand : Hand = record { prefix = prefix; cursor = tried.passed; mark = tried.mark } in
      let mark : tried.mark ≡ Unknown = tried.missed miss in
      let rest = judged tried.passed tried.mark in
      record {
        steps = Take 0 ∷ tried.steps ++ ((Learn 0 ∷ []) ++ Settle 0 ∷ rest.steps);
        more = rest.more;
        made = rw miss (record {
          taken = lone queue (Some (in_hand prefix)) [] deeds store;
          consulted = lone queue (Some hand) [] deeds store;
          learnt = lone queue (Some (judging problem hand)) [] deeds (store_with problem places store prefix);
          settled = rest.settled;
          consults = tried.steps;
          learns = Learn 0 ∷ [];
          puts = rest.steps;
          take = record { enabled = rw (ne_eqb (suc (length queue)) 0 (λ e. omega (arith, e))) refl; made = refl };
          consult = tried.made;
          learn = (refl, refl, record { enabled = rw mark refl; made = refl });
          settle = rest.settle;
          put = rest.put;
          whole = refl;
        });
        counted = rw miss (counts tried.steps (Learn 0 ∷ []) rest.steps 1 tried.quiet refl rest.quiet);
      }
]
  where
    tried : Consulted problem places queue prefix deeds store 0 store
    tried = consults problem places queue prefix deeds store 0 [] store refl refl

    judged : (cursor : ℕ) (mark : Mark) → Settled problem places queue (judging problem (record { prefix = prefix; cursor = cursor; mark = mark })) deeds (store_with problem places store prefix) kids
    judged cursor mark = elim (cases_Bool (refuted problem prefix)) [
      | inl gone ↦ settles problem places queue (judging problem (record { prefix = prefix; cursor = cursor; mark = mark })) deeds (store_with problem places store prefix) kids (Cut (own_certificate problem prefix)) (rw gone refl) (rw gone refl) (sym (closed gone))
      | inr held ↦
          let f = opened held in
          settles problem places queue (judging problem (record { prefix = prefix; cursor = cursor; mark = mark })) deeds (store_with problem places store prefix) kids f.fate (rw held refl) (rw held f.is) f.below
    ]
