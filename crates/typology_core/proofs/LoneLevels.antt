-- The rounds of one worker, a length of prefixes after another.
use Rattle.std.proofs.Common.{◌≡◌, ℕ, ◌+◌, List, [], ◌∷◌, ◌++◌, Bool, true, false, not, arith, refl, sym, ◌∙◌, subst, cond, inl, inr, length, append_assoc, map, flat_map}
use Rattle.std.specs.Prelude.{All, count_by, nat_lt}
use Rattle.std.specs.List.{filter, list_any}
use Rattle.std.proofs.lemmas.Bool.{cases_Bool, or_cases}
use Rattle.std.proofs.lemmas.List.{append-nil, map-append, length-map}
use Rattle.std.proofs.lemmas.List.Elements.{All-head, All-tail}
use Rattle.std.proofs.lemmas.List.Sums.{sum_by-append}
use Rattle.ot_theory.specs.Problems.{Problem}
use Rattle.ot_theory.specs.Languages.{Term, refuted, terms_of}
use Rattle.ot_theory.specs.Refutations.{is_contradiction, refutes}
use Rattle.ot_theory.proofs.Certificates.{certificate-contradiction, contradiction-refutes}
use Rattle.ot_theory.proofs.Optimal.{refuted-conditions}
use Rattle.violation_profiles.specs.WellFormed.{IsPrefix, IsWellFormed}
use Rattle.violation_profiles.proofs.Inputs.{AllFit-prefix}
use Rattle.refutation.proofs.TermsOfPrefixes.{certificate-refutes, made-one, terms_of-genuine, terms_of-made}
use Rattle.search_deeds.specs.Deeds.{Deed}
use Rattle.search_machine.specs.Machine.{State, is_learn, judged, own_certificate, store_with}
use Rattle.search_machine.specs.Machine.Mark.{Open, Refuted}
use Rattle.search_machine.specs.Kept.{IsTrueMark}
use Rattle.search_machine.specs.declared.step.Step.{Step}
use Rattle.search_machine.proofs.StepsKeep.{stored-entries}
use Rattle.search_schedule.proofs.Places.{bit}
use Rattle.typology_core.specs.Rounds.{AreRounds}
use Rattle.typology_core.proofs.Lone.{HasFate, is_hit, resting, rounded}
use Rattle.typology_core.proofs.Tallies.{missed, stored, stored_all}

abbrev pub AreEntries : Problem → List (List Term) → Type 0
AreEntries problem store = All (λ terms. is_contradiction problem terms ≡ true) store

-- What the store refutes is refuted.
pub sound-hit : (problem : Problem) (store : List (List Term)) (prefix : List ℕ) → IsWellFormed problem → IsPrefix problem prefix → AreEntries problem store → is_hit store prefix ≡ true → refuted problem prefix ≡ true
sound-hit problem [] prefix well p entries h = absurd (let no : false ≡ true = h in cc)
sound-hit problem (terms ∷ store) prefix well p entries h = elim (or_cases (refutes terms prefix) (is_hit store prefix) h) [
  | inl here ↦ contradiction-refutes problem terms prefix (AllFit-prefix problem prefix well p) (All-head (λ (t : List Term). is_contradiction problem t ≡ true) terms store entries) here
  | inr later ↦ sound-hit problem store prefix well p (All-tail (λ (t : List Term). is_contradiction problem t ≡ true) terms store entries) later
]

true-judged : (problem : Problem) (prefix : List ℕ) → IsWellFormed problem → IsPrefix problem prefix → IsTrueMark problem prefix (judged problem prefix)
true-judged problem prefix well p = by (refuted problem prefix) refl
  where
    by : (b : Bool) → refuted problem prefix ≡ b → IsTrueMark problem prefix (cond b (Refuted (own_certificate problem prefix)) Open)
    by true e = (
      certificate-contradiction problem (terms_of problem prefix) (terms_of-genuine problem prefix p) (made-one prefix (terms_of problem prefix) (terms_of-made problem prefix)) (sym (refuted-conditions problem prefix (AllFit-prefix problem prefix well p)) ∙ e),
      certificate-refutes problem prefix (own_certificate problem prefix) refl,
    )
    by false e = e

-- ---- prefixes one after another
abbrev pub store_after : Problem → ℕ → List (List Term) → List ℕ → List (List Term)
store_after problem places store prefix = cond (is_hit store prefix) store (store_with problem places store prefix)

abbrev pub store_over : Problem → ℕ → List (List Term) → List (List ℕ) → List (List Term)
store_over problem places store [] = store
store_over problem places store (prefix ∷ prefixes) = store_over problem places (store_after problem places store prefix) prefixes

abbrev pub learnt_over : Problem → ℕ → List (List Term) → List (List ℕ) → ℕ
learnt_over problem places store [] = 0
learnt_over problem places store (prefix ∷ prefixes) = cond (is_hit store prefix) 0 1 + learnt_over problem places (store_after problem places store prefix) prefixes

entries-after : (problem : Problem) (places : ℕ) (store : List (List Term)) (prefix : List ℕ) → IsWellFormed problem → IsPrefix problem prefix → AreEntries problem store → AreEntries problem (store_after problem places store prefix)
entries-after problem places store prefix well p entries = elim (cases_Bool (is_hit store prefix)) [
  | inl hit ↦ rw hit entries
  | inr miss ↦ rw miss (stored-entries problem places store prefix (true-judged problem prefix well p) entries)
]

-- a run of rounds from a state until the machine is finished, with so many Learn steps
pub record Finishes (problem : Problem) (places : ℕ) (before : State) (learns : ℕ) : Type 0 where
  pub rounds : List (List Step)
  pub after : State
  pub made : AreRounds problem places before rounds after
  pub counted : count_by is_learn (flat_map (λ round. round) rounds) ≡ learns

-- a prefix with the children that it has where it holds
pub record IsReadyFor (problem : Problem) (kids : List ℕ → List (List ℕ)) (prefix : List ℕ) : Type 0 where
  pub prefix_of : IsPrefix problem prefix
  pub closed : refuted problem prefix ≡ true → kids prefix ≡ []
  pub opened : refuted problem prefix ≡ false → HasFate problem prefix (kids prefix)

pub finishes-over : (problem : Problem) (places : ℕ) (kids : List ℕ → List (List ℕ)) (xs queue : List (List ℕ)) (deeds : List Deed) (store : List (List Term)) (n : ℕ) → IsWellFormed problem → All (IsReadyFor problem kids) xs → AreEntries problem store
    → ((more : List Deed) → AreEntries problem (store_over problem places store xs) → Finishes problem places (resting (queue ++ flat_map kids xs) more (store_over problem places store xs)) n)
    → Finishes problem places (resting (xs ++ queue) deeds store) (learnt_over problem places store xs + n)
finishes-over problem places kids [] queue deeds store n well ready entries later =
    let rest = subst (λ (q : List (List ℕ)). Finishes problem places (resting q deeds store) n) (append-nil queue) (later deeds entries) in
    record { rounds = rest.rounds; after = rest.after; made = rest.made; counted = omega (arith, rest.counted) }
finishes-over problem places kids (x ∷ xs) queue deeds store n well ready entries later =
    let mine = All-head (IsReadyFor problem kids) x xs ready in
    let entry = entries-after problem places store x well mine.prefix_of entries in
    let first = rounded problem places x (xs ++ queue) deeds store (kids x) (sound-hit problem store x well mine.prefix_of entries) mine.closed mine.opened in
    let rest =
    subst (λ (q : List (List ℕ)). Finishes problem places (resting q first.more (store_after problem places store x)) (learnt_over problem places (store_after problem places store x) xs + n)) (sym (append_assoc xs queue (kids x)))
    (finishes-over problem places kids xs (queue ++ kids x) first.more (store_after problem places store x) n well (All-tail (IsReadyFor problem kids) x xs ready) entry
    (λ more e. subst (λ (q : List (List ℕ)). Finishes problem places (resting q more (store_over problem places (store_after problem places store x) xs)) n) (sym (append_assoc queue (kids x) (flat_map kids xs))) (later more e))) in
    record {
      rounds = first.steps ∷ rest.rounds;
      after = rest.after;
      made = (resting ((xs ++ queue) ++ kids x) first.more (store_after problem places store x), first.made, rest.made);
      counted = omega (arith, sum_by-append (λ s. bit (is_learn s)) first.steps (flat_map (λ round. round) rest.rounds), first.counted, rest.counted);
    }

-- ---- the store by the prefixes whose certificates it holds
abbrev pub hits : Problem → List ℕ → List ℕ → Bool
hits problem leader prefix = refutes (own_certificate problem leader) prefix

abbrev pub certified_by : Problem → List (List ℕ) → List (List Term)
certified_by problem kept = map (own_certificate problem) kept

pub hit-kept : (problem : Problem) (kept : List (List ℕ)) (prefix : List ℕ) → is_hit (certified_by problem kept) prefix ≡ list_any (λ leader. hits problem leader prefix) kept
hit-kept problem [] prefix = refl
hit-kept problem (leader ∷ kept) prefix = rw (hit-kept problem kept prefix) refl

pub learnt-missed : (problem : Problem) (places : ℕ) (kept xs : List (List ℕ)) → IsWellFormed problem → All (IsPrefix problem) xs → AreEntries problem (certified_by problem kept)
    → (learnt_over problem places (certified_by problem kept) xs ≡ length (filter (λ x. not (refuted problem x)) xs) + missed (hits problem) places kept (filter (refuted problem) xs))
    × (store_over problem places (certified_by problem kept) xs ≡ certified_by problem (stored_all (hits problem) places kept (filter (refuted problem) xs)))
learnt-missed problem places kept [] well all entries = (refl, refl)
learnt-missed problem places kept (x ∷ xs) well all entries = elim (cases_Bool (refuted problem x)) [
  | inr held ↦
      let miss : is_hit (certified_by problem kept) x ≡ false = missed_held held in
      let rest = learnt-missed problem places kept xs well (All-tail (IsPrefix problem) x xs all) entries in
      rw (held, miss) (omega (arith, rest.0), rest.1)
  | inl gone ↦
      let rest = learnt-missed problem places (stored (hits problem) places kept x) xs well (All-tail (IsPrefix problem) x xs all) (rw (same gone) at (entries-after problem places (certified_by problem kept) x well (All-head (IsPrefix problem) x xs all) entries)) in
      rw (same gone, hit-kept problem kept x, gone) (omega (arith, rest.0), rest.1)
]
  where
    missed_held : refuted problem x ≡ false → is_hit (certified_by problem kept) x ≡ false
    missed_held held = elim (cases_Bool (is_hit (certified_by problem kept) x)) [
      | inl hit ↦ absurd (let no : true ≡ false = sym (sound-hit problem (certified_by problem kept) x well (All-head (IsPrefix problem) x xs all) entries hit) ∙ held in cc)
      | inr miss ↦ miss
    ]

    same : refuted problem x ≡ true → store_after problem places (certified_by problem kept) x ≡ certified_by problem (stored (hits problem) places kept x)
    same gone = rw (gone, hit-kept problem kept x, length-map kept (own_certificate problem)) (by (list_any (λ leader. hits problem leader x) kept) (nat_lt (length kept) places))
      where
        by : (any room : Bool) → cond any (certified_by problem kept) (cond room (certified_by problem kept ++ own_certificate problem x ∷ []) (certified_by problem kept)) ≡ certified_by problem (cond any kept (cond room (kept ++ x ∷ []) kept))
        by true room = refl
        by false true = sym (map-append (own_certificate problem) kept (x ∷ []))
        by false false = refl
