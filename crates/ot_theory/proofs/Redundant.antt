-- A term whose condition earlier ones imply can be left out.
use Rattle.std.proofs.Common.{◌≡◌, ◌⊎◌, ℕ, ◌<◌, List, [], ◌∷◌, ◌++◌, Bool, true, false, ◌&&◌, refl, sym, ◌∙◌, ap, not, inl, inr, length, get_or, map}
use Rattle.std.specs.List.{list_all, list_any}
use Rattle.std.proofs.lemmas.Bool.{and_parts, and_from, cases_Bool, not-true}
use Rattle.std.proofs.lemmas.List.{append-nil, append_assoc, map-append}
use Rattle.std.proofs.lemmas.List.Folds.{list_all-append}
use Rattle.std.proofs.lemmas.List.Sums.{AllPass-from_list_all, list_all-from_AllPass}
use Rattle.ot_theory.specs.declared.Mark.{Mark}
use Rattle.ot_theory.specs.declared.Mark.TheVariants.{W, L, E}
use Rattle.ot_theory.specs.Rankings.{rankings}
use Rattle.ot_theory.specs.Conditions.{keeps, mark_at, is_win, is_loss}
use Rattle.ot_theory.specs.Hierarchies.{satisfies, Satisfies, IsLeastHierarchy}
use Rattle.ot_theory.specs.Problems.{Problem}
use Rattle.ot_theory.specs.Languages.{Term, condition_of}
use Rattle.ot_theory.specs.Refutations.{no_ranking_keeps, certificate_of, kept_of}
use Rattle.ot_theory.specs.Reductions.{IsStronger, IsImplied, IsReduced}
use Rattle.ot_theory.proofs.Enumeration.{any-ranking, ranking-found}
use Rattle.ot_theory.proofs.Strata.{mark_tells, is_win-true, is_loss-true, mark_at-within, WinAbove-satisfied, satisfied-WinAbove}
use Rattle.ot_theory.proofs.Deletion.{kept_of-append, kept_of-passes, push_between}
use Rattle.ot_theory.proofs.Sets.{both_ways, is_hopeless}

-- What keeps the stronger condition keeps the weaker one.
stronger-keeps : (order : List ℕ) (marks weaker : List Mark) → IsStronger marks weaker → keeps order marks ≡ true → keeps order weaker ≡ true
stronger-keeps [] marks weaker s h = refl
stronger-keeps (x ∷ order) marks weaker s h = elim (mark_tells (mark_at weaker x)) [
  | inl win ↦ rw win (ap is_win win)
  | inr other ↦ elim other [
    | inl loss ↦ absurd (lost (is_loss-true _ (s.losses x (ap is_loss loss))))
    | inr even ↦ rw even (stronger-keeps order marks weaker s (rest (mark_tells (mark_at marks x)) even))
  ]
]
  where
    lost : mark_at marks x ≡ L → ⊥
    lost bad = let e : is_win (mark_at marks x) ≡ true = rw bad at h in let f : is_win L ≡ true = sym (ap is_win bad) ∙ e in cc

    rest : (mark_at marks x ≡ W) ⊎ ((mark_at marks x ≡ L) ⊎ (mark_at marks x ≡ E)) → mark_at weaker x ≡ E → keeps order marks ≡ true
    rest (inl win) even = let no : is_win E ≡ true = sym (ap is_win even) ∙ s.wins x (ap is_win win) in absurd (cc)
    rest (inr (inl loss)) even = absurd (lost loss)
    rest (inr (inr none)) even = rw none at h

-- What satisfies the stronger one satisfies the weaker one.
stronger-satisfied : (levels : List ℕ) (marks weaker : List Mark) → IsStronger marks weaker → satisfies levels marks ≡ true → satisfies levels weaker ≡ true
stronger-satisfied levels marks weaker s h = satisfied-WinAbove levels weaker (λ d loss.
    let w = WinAbove-satisfied levels marks h d (is_loss-true _ (s.losses d (ap is_loss loss))) in
    let win : mark_at weaker w.it ≡ W = is_win-true _ (s.wins w.it (ap is_win w.win)) in
    record { it = w.it; within = mark_at-within weaker w.it (λ even. let no : W ≡ E = sym win ∙ even in cc); win = win; above = w.above })

pub IsImplied-stronger : (set : List (List Mark)) (marks : List Mark) (k : ℕ) (d : List Mark) → k < length set → IsStronger (get_or set k d) marks → IsImplied set marks
IsImplied-stronger set marks k d below s = record {
  kept = λ order h. stronger-keeps order (get_or set k d) marks s (AllPass-from_list_all (keeps order) set h k d below);
  satisfied = λ levels h. stronger-satisfied levels (get_or set k d) marks s (AllPass-from_list_all (satisfies levels) set h k d below);
}

-- A condition without L is implied by any set.
pub IsImplied-lossless : (set : List (List Mark)) (marks : List Mark) → ((c : ℕ) → is_loss (mark_at marks c) ≡ false) → IsImplied set marks
IsImplied-lossless set marks none = record {
  kept = λ order h. keeps_all order;
  satisfied = λ levels h. satisfied-WinAbove levels marks (λ d loss. let no : true ≡ false = sym (ap is_loss loss) ∙ none d in absurd (cc));
}
  where
    keeps_all : (order : List ℕ) → keeps order marks ≡ true
    keeps_all [] = refl
    keeps_all (x ∷ order) = elim (mark_tells (mark_at marks x)) [
      | inl win ↦ rw win (ap is_win win)
      | inr other ↦ elim other [
        | inl loss ↦ let no : true ≡ false = sym (ap is_loss loss) ∙ none x in absurd (cc)
        | inr even ↦ rw even (keeps_all order)
      ]
    ]

-- Where each ranking that keeps the one set keeps the other, and the other way round, none keeps the one where none keeps the other.
no_ranking_keeps-weaker : (n : ℕ) (part set : List (List Mark)) → ((order : List ℕ) → list_all (keeps order) set ≡ true → list_all (keeps order) part ≡ true) → no_ranking_keeps n part ≡ true → no_ranking_keeps n set ≡ true
unfolding no_ranking_keeps
no_ranking_keeps-weaker n part set within h = elim (cases_Bool (list_any (λ order. list_all (keeps order) set) (rankings n))) [
  | inl found ↦
      let f = ranking-found n (λ order. list_all (keeps order) set) found in
      let some : list_any (λ order. list_all (keeps order) part) (rankings n) ≡ true =
      any-ranking n f.order (λ order. list_all (keeps order) part) f.ranking (within f.order f.passes) in
      let no : true ≡ false = sym some ∙ not-true _ h in
      absurd (cc)
  | inr none ↦ ap not none
]

-- a list with a member between two parts
all-between : {X : Type 0} (p : X → Bool) (before : List X) (x : X) (behind : List X) → list_all p before ≡ true → p x ≡ true → list_all p behind ≡ true → list_all p (before ++ x ∷ behind) ≡ true
all-between p before x behind h here rest = list_all-append p before (x ∷ behind) ∙ and_from _ _ h (and_from _ _ here rest)

all-parts : {X : Type 0} (p : X → Bool) (xs ys : List X) → list_all p (xs ++ ys) ≡ true → (list_all p xs ≡ true) × (list_all p ys ≡ true)
all-parts p xs ys h = and_parts _ _ (sym (list_all-append p xs ys) ∙ h)

-- What a set implies changes nothing behind it.
hopeless-implied : (n : ℕ) (set : List (List Mark)) (marks : List Mark) (more : List (List Mark)) → IsImplied set marks → no_ranking_keeps n (set ++ marks ∷ more) ≡ no_ranking_keeps n (set ++ more)
hopeless-implied n set marks more i = both_ways _ _
    (no_ranking_keeps-weaker n (set ++ marks ∷ more) (set ++ more) (λ order h. let parts = all-parts (keeps order) set more h in all-between (keeps order) set marks more parts.0 (i.kept order parts.0) parts.1))
    (no_ranking_keeps-weaker n (set ++ more) (set ++ marks ∷ more) (λ order h. let parts = all-parts (keeps order) set (marks ∷ more) h in list_all-append (keeps order) set more ∙ and_from _ _ parts.0 (and_parts _ _ parts.1).1))

-- What is kept behind some terms depends on what they are worth alone.
kept_of-before : (hopeless : List Term → Bool) (before other terms : List Term) → ((more : List Term) → hopeless (before ++ more) ≡ hopeless (other ++ more)) → kept_of hopeless before terms ≡ kept_of hopeless other terms
kept_of-before hopeless before other [] same = refl
kept_of-before hopeless before other (term ∷ terms) same =
    let kept = kept_of hopeless (other ++ term ∷ []) terms in
    let rest : kept_of hopeless (before ++ term ∷ []) terms ≡ kept = kept_of-before hopeless (before ++ term ∷ []) (other ++ term ∷ []) terms (λ more.
    rw (push_between before term more, push_between other term more) (same (term ∷ more))) in
    rw (rest, same kept) refl

-- A term that is worth nothing behind others is not kept behind them.
kept_of-without : (hopeless : List Term → Bool) (before : List Term) (term : Term) (terms : List Term) → ((more : List Term) → hopeless (before ++ term ∷ more) ≡ hopeless (before ++ more)) → hopeless (before ++ term ∷ terms) ≡ true
    → kept_of hopeless before (term ∷ terms) ≡ kept_of hopeless before terms
kept_of-without hopeless before term terms nothing h =
    let same : kept_of hopeless (before ++ term ∷ []) terms ≡ kept_of hopeless before terms = kept_of-before hopeless (before ++ term ∷ []) before terms (λ more. rw (push_between before term more) (nothing more)) in
    let passes : hopeless (before ++ kept_of hopeless before terms) ≡ true = kept_of-passes hopeless before terms (sym (nothing terms) ∙ h) in
    rw (same, passes) refl

pub IsReduced-same : (problem : Problem) (terms : List Term) → IsReduced problem terms terms
IsReduced-same problem terms = record { hopeless = λ before more. refl; kept = λ before more h. refl; part = λ p h. h; satisfied = λ levels. refl }

all-pushed : (problem : Problem) (p : List Mark → Bool) (terms : List Term) (term : Term) → list_all p (map (condition_of problem) (terms ++ term ∷ [])) ≡ (list_all p (map (condition_of problem) terms) && list_all p (condition_of problem term ∷ []))
all-pushed problem p terms term = ap (list_all p) (map-append (condition_of problem) terms (term ∷ [])) ∙ list_all-append p (map (condition_of problem) terms) (condition_of problem term ∷ [])

-- with one term more behind both
pub IsReduced-push : (problem : Problem) (whole reduced : List Term) (term : Term) → IsReduced problem whole reduced → IsReduced problem (whole ++ term ∷ []) (reduced ++ term ∷ [])
IsReduced-push problem whole reduced term r = record {
  hopeless = λ before more. rw (push_between whole term more, push_between reduced term more) (r.hopeless before (term ∷ more));
  kept = λ before more h. rw (push_between whole term more, push_between reduced term more) (r.kept before (term ∷ more) (rw (push_between whole term more) at h));
  part = λ p h. let parts = all-parts p whole (term ∷ []) h in list_all-append p reduced (term ∷ []) ∙ and_from _ _ (r.part p parts.0) parts.1;
  satisfied = λ levels. all-pushed problem (satisfies levels) whole term ∙ ap (λ (b : Bool). b && list_all (satisfies levels) (condition_of problem term ∷ [])) (r.satisfied levels) ∙ sym (all-pushed problem (satisfies levels) reduced term);
}

-- what stands before a set changes nothing
IsImplied-behind : (before set : List (List Mark)) (marks : List Mark) → IsImplied set marks → IsImplied (before ++ set) marks
IsImplied-behind before set marks i = record {
  kept = λ order h. i.kept order (all-parts (keeps order) before set h).1;
  satisfied = λ levels h. i.satisfied levels (all-parts (satisfies levels) before set h).1;
}

-- with one term more, which is left out
pub IsReduced-without : (problem : Problem) (whole reduced : List Term) (term : Term) → IsReduced problem whole reduced → IsImplied (map (condition_of problem) reduced) (condition_of problem term) → IsReduced problem (whole ++ term ∷ []) reduced
IsReduced-without problem whole reduced term r implied = record {
  hopeless = λ before more. rw (push_between whole term more) (r.hopeless before (term ∷ more) ∙ nothing before more);
  kept = λ before more h. rw (push_between whole term more) (
      let whole_hopeless : is_hopeless problem (before ++ (whole ++ term ∷ more)) ≡ true = rw (push_between whole term more) at h in
      r.kept before (term ∷ more) whole_hopeless ∙ without before more (sym (r.hopeless before (term ∷ more)) ∙ whole_hopeless));
  part = λ p h. r.part p (all-parts p whole (term ∷ []) h).0;
  satisfied = λ levels. all-pushed problem (satisfies levels) whole term ∙ both_ways _ _
      (λ h. sym (r.satisfied levels) ∙ (and_parts _ _ h).0)
      (λ h. and_from _ _ (r.satisfied levels ∙ h) (and_from _ _ (implied.satisfied levels h) refl));
}
  where
    behind : (before more : List Term) → is_hopeless problem ((before ++ reduced) ++ term ∷ more) ≡ is_hopeless problem ((before ++ reduced) ++ more)
    behind before more =
        ap (no_ranking_keeps problem.constraints) (map-append (condition_of problem) (before ++ reduced) (term ∷ more))
        ∙ hopeless-implied problem.constraints (map (condition_of problem) (before ++ reduced)) (condition_of problem term) (map (condition_of problem) more)
        (rw (map-append (condition_of problem) before reduced) (IsImplied-behind (map (condition_of problem) before) (map (condition_of problem) reduced) (condition_of problem term) implied))
        ∙ ap (no_ranking_keeps problem.constraints) (sym (map-append (condition_of problem) (before ++ reduced) more))

    nothing : (before more : List Term) → is_hopeless problem (before ++ (reduced ++ term ∷ more)) ≡ is_hopeless problem (before ++ (reduced ++ more))
    nothing before more = rw (append_assoc before reduced (term ∷ more), append_assoc before reduced more) at (behind before more)

    without : (before more : List Term) → is_hopeless problem (before ++ (reduced ++ term ∷ more)) ≡ true → kept_of (is_hopeless problem) before (reduced ++ term ∷ more) ≡ kept_of (is_hopeless problem) before (reduced ++ more)
    without before more h =
        let all : is_hopeless problem ((before ++ reduced) ++ term ∷ more) ≡ true = rw (append_assoc before reduced (term ∷ more)) h in
        let same : kept_of (is_hopeless problem) (before ++ reduced) (term ∷ more) ≡ kept_of (is_hopeless problem) (before ++ reduced) more = kept_of-without (is_hopeless problem) (before ++ reduced) term more (behind before) all in
        kept_of-append (is_hopeless problem) before reduced (term ∷ more)
        ∙ ap (λ (kept : List Term). kept_of (λ terms. is_hopeless problem (terms ++ kept)) before reduced ++ kept) same
        ∙ sym (kept_of-append (is_hopeless problem) before reduced more)

-- reduced twice
pub IsReduced-trans : (problem : Problem) (whole middle reduced : List Term) → IsReduced problem whole middle → IsReduced problem middle reduced → IsReduced problem whole reduced
IsReduced-trans problem whole middle reduced r s = record {
  hopeless = λ before more. r.hopeless before more ∙ s.hopeless before more;
  kept = λ before more h. r.kept before more h ∙ s.kept before more (sym (r.hopeless before more) ∙ h);
  part = λ p h. s.part p (r.part p h);
  satisfied = λ levels. r.satisfied levels ∙ s.satisfied levels;
}

-- one list behind another one
pub IsReduced-append : (problem : Problem) (whole reduced others fewer : List Term) → IsReduced problem whole reduced → IsReduced problem others fewer → IsReduced problem (whole ++ others) (reduced ++ fewer)
IsReduced-append problem whole reduced others fewer r s = record {
  hopeless = λ before more. rw (append_assoc whole others more, append_assoc reduced fewer more) (r.hopeless before (others ++ more) ∙ moved before more);
  kept = λ before more h. rw (append_assoc whole others more, append_assoc reduced fewer more) (
      let all : is_hopeless problem (before ++ (whole ++ (others ++ more))) ≡ true = rw (append_assoc whole others more) at h in
      r.kept before (others ++ more) all ∙ behind before more (rw (← append_assoc before reduced (others ++ more)) at (sym (r.hopeless before (others ++ more)) ∙ all)));
  part = λ p h. let parts = all-parts p whole others h in list_all-append p reduced fewer ∙ and_from _ _ (r.part p parts.0) (s.part p parts.1);
  satisfied = λ levels. all-appended (satisfies levels) whole others
      ∙ ap (λ (b : Bool). b && list_all (satisfies levels) (map (condition_of problem) others)) (r.satisfied levels)
      ∙ ap (λ (b : Bool). list_all (satisfies levels) (map (condition_of problem) reduced) && b) (s.satisfied levels)
      ∙ sym (all-appended (satisfies levels) reduced fewer);
}
  where
    all-appended : (p : List Mark → Bool) (xs ys : List Term) → list_all p (map (condition_of problem) (xs ++ ys)) ≡ (list_all p (map (condition_of problem) xs) && list_all p (map (condition_of problem) ys))
    all-appended p xs ys = ap (list_all p) (map-append (condition_of problem) xs ys) ∙ list_all-append p (map (condition_of problem) xs) (map (condition_of problem) ys)

    moved : (before more : List Term) → is_hopeless problem (before ++ (reduced ++ (others ++ more))) ≡ is_hopeless problem (before ++ (reduced ++ (fewer ++ more)))
    moved before more = rw (append_assoc before reduced (others ++ more), append_assoc before reduced (fewer ++ more)) at (s.hopeless (before ++ reduced) more)

    behind : (before more : List Term) → is_hopeless problem ((before ++ reduced) ++ (others ++ more)) ≡ true → kept_of (is_hopeless problem) before (reduced ++ (others ++ more)) ≡ kept_of (is_hopeless problem) before (reduced ++ (fewer ++ more))
    behind before more h =
        kept_of-append (is_hopeless problem) before reduced (others ++ more)
        ∙ ap (λ (kept : List Term). kept_of (λ terms. is_hopeless problem (terms ++ kept)) before reduced ++ kept) (s.kept (before ++ reduced) more h)
        ∙ sym (kept_of-append (is_hopeless problem) before reduced (fewer ++ more))

Satisfies-other : (n : ℕ) (set other : List (List Mark)) (levels : List ℕ) → list_all (satisfies levels) set ≡ list_all (satisfies levels) other → Satisfies n set levels → Satisfies n other levels
Satisfies-other n set other levels e s = record { width = s.width; from_one = s.from_one; each = AllPass-from_list_all (satisfies levels) other (sym e ∙ list_all-from_AllPass (satisfies levels) set s.each) }

-- The least hierarchy is the same.
pub IsReduced-least : (problem : Problem) (whole reduced : List Term) (levels : List ℕ) → IsReduced problem whole reduced → IsLeastHierarchy problem.constraints (map (condition_of problem) reduced) levels → IsLeastHierarchy problem.constraints (map (condition_of problem) whole) levels
IsReduced-least problem whole reduced levels r h = record {
  satisfying = Satisfies-other problem.constraints _ _ levels (sym (r.satisfied levels)) h.satisfying;
  least = λ other s c. h.least other (Satisfies-other problem.constraints _ _ other (r.satisfied other) s) c;
}

pub IsReduced-hopeless : (problem : Problem) (whole reduced : List Term) → IsReduced problem whole reduced → is_hopeless problem whole ≡ is_hopeless problem reduced
IsReduced-hopeless problem whole reduced r = ap (is_hopeless problem) (sym (append-nil whole)) ∙ r.hopeless [] [] ∙ ap (is_hopeless problem) (append-nil reduced)

pub IsReduced-certificate : (problem : Problem) (whole reduced : List Term) → IsReduced problem whole reduced → is_hopeless problem whole ≡ true → certificate_of problem whole ≡ certificate_of problem reduced
unfolding certificate_of
IsReduced-certificate problem whole reduced r h =
    ap (kept_of (is_hopeless problem) []) (sym (append-nil whole)) ∙ r.kept [] [] (ap (is_hopeless problem) (append-nil whole) ∙ h) ∙ ap (kept_of (is_hopeless problem) []) (append-nil reduced)
