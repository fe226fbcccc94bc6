-- The run of one worker from the start to its end.
use Rattle.std.proofs.Common.{◌≡◌, ℕ, zero, suc, ◌+◌, ◌<◌, ◌≤◌, List, [], ◌∷◌, ◌++◌, Bool, true, false, not, ◌&&◌, ◌==◌, ◌^◌, ◌-◌, min, arith, refl, sym, ◌∙◌, ap, subst, cond, inl, inr, length, length-append, map, flat_map, get_or}
use Rattle.std.specs.Prelude.{All}
use Rattle.std.proofs.lemmas.Bool.{cases_Bool}
use Rattle.std.proofs.lemmas.List.{append-nil}
use Rattle.std.proofs.lemmas.List.Elements.{All-append, All-cons, All-head, All-nil, All-tail}
use Rattle.ot_theory.specs.Hierarchies.{IsLeastHierarchy}
use Rattle.ot_theory.specs.Problems.{Problem}
use Rattle.ot_theory.specs.Languages.{Term, conditions_of, refuted}
use Rattle.ot_theory.specs.Refutations.{is_contradiction}
use Rattle.violation_profiles.specs.WellFormed.{IsPrefix, IsWellFormed}
use Rattle.search_deeds.specs.Deeds.{Deed, children}
use Rattle.search_deeds.specs.Deeds.Fate.{Opened, Language}
use Rattle.search_deeds.proofs.Children.{IsPrefix-children}
use Rattle.search_machine.specs.Machine.{IsFinished, is_idle}
use Rattle.search_machine.specs.declared.step.Step.TheVariants.{Take, Steal, Consult, Learn, Settle, Put}
use Rattle.typology_core.specs.Learned.{held_at, level, refuted_at}
use Rattle.typology_core.specs.Rounds.{CountsLoneLearns}
use Rattle.typology_core.proofs.Levels.{level-next, next}
use Rattle.typology_core.proofs.Lone.{resting}
use Rattle.typology_core.proofs.LoneLevels.{AreEntries, Finishes, IsReadyFor, certified_by, finishes-over, hits, learnt-missed, learnt_over, store_over}
use Rattle.typology_core.proofs.Tallies.{missed, stored_all}

neither : (a b : Bool) → (a && (b && false)) ≡ false
neither true true = refl
neither true false = refl
neither false b = refl

-- Nothing waits.
spent : (deeds : List Deed) (store : List (List Term)) → IsFinished (resting [] deeds store)
spent deeds store (Take zero) = refl
spent deeds store (Take (suc w)) = refl
spent deeds store (Steal w zero) = neither (not (zero == w)) (is_idle (resting [] deeds store).hands w)
spent deeds store (Steal w (suc v)) = neither (not (suc v == w)) (is_idle (resting [] deeds store).hands w)
spent deeds store (Consult zero) = refl
spent deeds store (Consult (suc w)) = refl
spent deeds store (Learn zero) = refl
spent deeds store (Learn (suc w)) = refl
spent deeds store (Settle zero) = refl
spent deeds store (Settle (suc w)) = refl
spent deeds store (Put zero) = refl
spent deeds store (Put (suc w)) = refl

-- the children of a prefix that holds
abbrev pub kids_of : Problem → List ℕ → List (List ℕ)
kids_of problem prefix = cond (refuted problem prefix) [] (children problem prefix)

kids-next : (problem : Problem) (xs : List (List ℕ)) → flat_map (kids_of problem) xs ≡ next problem xs
kids-next problem [] = refl
kids-next problem (x ∷ xs) = elim (cases_Bool (refuted problem x)) [
  | inl gone ↦ rw gone (kids-next problem xs)
  | inr held ↦ rw held (ap (λ (l : List (List ℕ)). children problem x ++ l) (kids-next problem xs))
]

no_kids : (xs : List (List ℕ)) → flat_map (λ (x : List ℕ). (let none : List (List ℕ) = [] in none)) xs ≡ []
no_kids [] = refl
no_kids (x ∷ xs) = no_kids xs

-- a prefix of a length
pub record IsAt (problem : Problem) (k : ℕ) (prefix : List ℕ) : Type 0 where
  pub fits : IsPrefix problem prefix
  pub long : length prefix ≡ k

children-at : (problem : Problem) (k : ℕ) (prefix : List ℕ) → k < length problem.inputs → IsAt problem k prefix → All (IsAt problem (k + 1)) (children problem prefix)
children-at problem k prefix short h i d below =
    record {
      fits = IsPrefix-children problem prefix h.fits (omega (arith, h.long)) i d below;
      long = longs i d below;
    }
  where
    longs : All (λ (c : List ℕ). length c ≡ k + 1) (children problem prefix)
    longs = by _
      where
        by : (numbers : List ℕ) → All (λ (c : List ℕ). length c ≡ k + 1) (map (λ a. prefix ++ a ∷ []) numbers)
        by [] = All-nil (λ (c : List ℕ). length c ≡ k + 1)
        by (a ∷ numbers) = All-cons (λ (c : List ℕ). length c ≡ k + 1) (prefix ++ a ∷ []) (map (λ b. prefix ++ b ∷ []) numbers) (omega (arith, h.long, length-append prefix (a ∷ []))) (by numbers)

next-at : (problem : Problem) (k : ℕ) (xs : List (List ℕ)) → k < length problem.inputs → All (IsAt problem k) xs → All (IsAt problem (k + 1)) (next problem xs)
next-at problem k [] short all = All-nil (IsAt problem (k + 1))
next-at problem k (x ∷ xs) short all = elim (cases_Bool (refuted problem x)) [
  | inl gone ↦ rw gone (next-at problem k xs short (All-tail (IsAt problem k) x xs all))
  | inr held ↦ rw held (All-append (IsAt problem (k + 1)) (children problem x) (next problem xs) (children-at problem k x short (All-head (IsAt problem k) x xs all)) (next-at problem k xs short (All-tail (IsAt problem k) x xs all)))
]

-- a full choice that holds has a least hierarchy
abbrev pub HasLeastOf : Problem → List ℕ → Type 0
HasLeastOf problem choice = (levels : List ℕ) × IsLeastHierarchy problem.constraints (conditions_of problem choice) levels

ready-short : (problem : Problem) (k : ℕ) (prefix : List ℕ) → k < length problem.inputs → IsAt problem k prefix → IsReadyFor problem (kids_of problem) prefix
ready-short problem k prefix short h = record {
  prefix_of = h.fits;
  closed = λ gone. rw gone refl;
  opened = λ held. record { fate = Opened; is = omega (arith, h.long); below = rw held (append-nil (children problem prefix)) };
}

ready-full : (problem : Problem) (prefix : List ℕ) → (refuted problem prefix ≡ false → HasLeastOf problem prefix) → IsAt problem (length problem.inputs) prefix → IsReadyFor problem (λ x. []) prefix
ready-full problem prefix least h = record {
  prefix_of = h.fits;
  closed = λ gone. refl;
  opened = λ held. let found = least held in record { fate = Language found.0; is = (h.long, found.1); below = refl };
}

pub level-at : (problem : Problem) (k : ℕ) → k ≤ length problem.inputs → All (IsAt problem k) (level problem k)
unfolding level
level-at problem zero within =
    All-cons (IsAt problem 0) [] [] (record { fits = record { short = omega (arith, within); within = λ i below. absurd (omega (arith, below)) }; long = refl }) (All-nil (IsAt problem 0))
level-at problem (suc k) within =
    let e : k + 1 ≡ suc k = omega arith in
    rw e at (next-at problem k (level problem k) (omega (arith, within)) (level-at problem k (omega (arith, within))))

-- how many Learn steps there are from a length on, with so many lengths behind it, where the store holds these certificates
abbrev pub learnt_from : Problem → ℕ → ℕ → ℕ → List (List ℕ) → ℕ
learnt_from problem places k zero kept = length (held_at problem k) + missed (hits problem) places kept (refuted_at problem k)
learnt_from problem places k (suc n) kept =
    (length (held_at problem k) + missed (hits problem) places kept (refuted_at problem k)) + learnt_from problem places (k + 1) n (stored_all (hits problem) places kept (refuted_at problem k))

fitting : (problem : Problem) (k : ℕ) (xs : List (List ℕ)) → All (IsAt problem k) xs → All (IsPrefix problem) xs
fitting problem k xs h i d below = (h i d below).fits

-- each full choice that holds has a least hierarchy
abbrev pub HaveLeast : Problem → List (List ℕ) → Type 0
HaveLeast problem xs = All (λ (x : List ℕ). refuted problem x ≡ false → HasLeastOf problem x) xs

finishes-from : (problem : Problem) (places n k : ℕ) (kept : List (List ℕ)) (deeds : List Deed) → IsWellFormed problem → k + n ≡ length problem.inputs → HaveLeast problem (level problem (length problem.inputs)) → AreEntries problem (certified_by problem kept)
    → Finishes problem places (resting (level problem k) deeds (certified_by problem kept)) (learnt_from problem places k n kept)
finishes-from problem places zero k kept deeds well long least entries =
    let last : k ≡ length problem.inputs = omega (arith, long) in
    let here = level-at problem k (omega (arith, last)) in
    let learnt = learnt-missed problem places kept (level problem k) well (fitting problem k (level problem k) here) entries in
    let all =
    finishes-over problem places (λ x. []) (level problem k) [] deeds (certified_by problem kept) 0 well
    (λ i d below. ready-full problem (get_or (level problem k) i d) (subst (λ (j : ℕ). HaveLeast problem (level problem j)) (sym last) least i d below) (record { fits = (here i d below).fits; long = (here i d below).long ∙ last })) entries
    (λ more e. record { rounds = []; after = resting ([] ++ flat_map (λ x. []) (level problem k)) more (store_over problem places (certified_by problem kept) (level problem k)); made = (rw (no_kids (level problem k)) (spent more (store_over problem places (certified_by problem kept) (level problem k))), refl); counted = refl }) in
    rw (append-nil (level problem k), learnt.0) at (let same : learnt_over problem places (certified_by problem kept) (level problem k) + 0 ≡ learnt_over problem places (certified_by problem kept) (level problem k) = omega arith in rw same at all)
finishes-from problem places (suc n) k kept deeds well long least entries =
    let short : k < length problem.inputs = omega (arith, long) in
    let here = level-at problem k (omega (arith, short)) in
    let learnt = learnt-missed problem places kept (level problem k) well (fitting problem k (level problem k) here) entries in
    let further : flat_map (kids_of problem) (level problem k) ≡ level problem (k + 1) = kids-next problem (level problem k) ∙ sym (level-next problem k) in
    let rest = learnt_from problem places (k + 1) n (stored_all (hits problem) places kept (refuted_at problem k)) in
    let all =
    finishes-over problem places (kids_of problem) (level problem k) [] deeds (certified_by problem kept) rest well
    (λ i d below. ready-short problem k _ short (here i d below)) entries
    (λ more e. rw (further, learnt.1) (finishes-from problem places n (k + 1) (stored_all (hits problem) places kept (refuted_at problem k)) more well (omega (arith, long)) least (rw learnt.1 at e))) in
    rw (append-nil (level problem k), learnt.0) at all

-- The run of one worker makes so many Learn steps.
pub lone-counts : (problem : Problem) (places : ℕ) → IsWellFormed problem → HaveLeast problem (level problem (length problem.inputs))
    → CountsLoneLearns problem places (min (learnt_from problem places 0 (length problem.inputs) []) (2 ^ 64 - 1))
unfolding level
lone-counts problem places well least =
    let all = finishes-from problem places (length problem.inputs) 0 [] [] well (omega arith) least (All-nil (λ (terms : List Term). is_contradiction problem terms ≡ true)) in
    (all.after, record { rounds = all.rounds; made = all.made; counted = ap (λ n. min n (2 ^ 64 - 1)) (sym all.counted) })
