-- What no ranking keeps: it depends on which conditions there are, and not on their order or number.
use Rattle.std.proofs.Common.{◌≡◌, ℕ, List, [], ◌∷◌, ◌++◌, Bool, true, false, not, refl, sym, ◌∙◌, ap, inl, inr, map}
use Rattle.std.specs.Prelude.{filter}
use Rattle.std.specs.List.{list_all, list_any}
use Rattle.std.proofs.lemmas.Bool.{and_parts, and_from, cases_Bool, not-true}
use Rattle.std.proofs.lemmas.List.{map-append}
use Rattle.std.proofs.lemmas.List.Folds.{list_all-append}
use Rattle.ot_theory.specs.declared.Mark.{Mark}
use Rattle.ot_theory.specs.Rankings.{rankings}
use Rattle.ot_theory.specs.Conditions.{keeps}
use Rattle.ot_theory.specs.Languages.{Term, condition_of}
use Rattle.ot_theory.specs.Problems.{Problem}
use Rattle.ot_theory.specs.Refutations.{no_ranking_keeps}
use Rattle.ot_theory.proofs.Enumeration.{any-ranking, ranking-found}
use Rattle.ot_theory.proofs.Deletion.{IsMonotone}

-- each condition of the one set is in the other: what all of the other pass, all of the one pass
abbrev pub IsPart : List (List Mark) → List (List Mark) → Type 0
IsPart part set = (p : List Mark → Bool) → list_all p set ≡ true → list_all p part ≡ true

-- What no ranking keeps of a part, none keeps of the whole.
pub no_ranking_keeps-more : (n : ℕ) (part set : List (List Mark)) → IsPart part set → no_ranking_keeps n part ≡ true → no_ranking_keeps n set ≡ true
unfolding no_ranking_keeps
no_ranking_keeps-more n part set within h = elim (cases_Bool (list_any (λ order. list_all (keeps order) set) (rankings n))) [
  | inl found ↦
      let f = ranking-found n (λ order. list_all (keeps order) set) found in
      let some : list_any (λ order. list_all (keeps order) part) (rankings n) ≡ true =
      any-ranking n f.order (λ order. list_all (keeps order) part) f.ranking (within (keeps f.order) f.passes) in
      let no : true ≡ false = sym some ∙ not-true _ h in
      absurd (cc)
  | inr none ↦ ap not none
]

-- two tests of which each passes where the other does
pub both_ways : (a b : Bool) → (a ≡ true → b ≡ true) → (b ≡ true → a ≡ true) → a ≡ b
both_ways true b f g = sym (f refl)
both_ways false true f g = g refl
both_ways false false f g = refl

pub no_ranking_keeps-same : (n : ℕ) (set other : List (List Mark)) → IsPart set other → IsPart other set → no_ranking_keeps n set ≡ no_ranking_keeps n other
no_ranking_keeps-same n set other within back = both_ways _ _ (no_ranking_keeps-more n set other within) (no_ranking_keeps-more n other set back)

-- the parts of two lists in the other order
pub IsPart-exchanged : (xs ys : List (List Mark)) → IsPart (xs ++ ys) (ys ++ xs)
IsPart-exchanged xs ys p h =
    let parts = and_parts (list_all p ys) (list_all p xs) (sym (list_all-append p ys xs) ∙ h) in
    list_all-append p xs ys ∙ and_from _ _ parts.1 parts.0

pub no_ranking_keeps-exchanged : (n : ℕ) (xs ys : List (List Mark)) → no_ranking_keeps n (xs ++ ys) ≡ no_ranking_keeps n (ys ++ xs)
no_ranking_keeps-exchanged n xs ys = no_ranking_keeps-same n (xs ++ ys) (ys ++ xs) (IsPart-exchanged xs ys) (IsPart-exchanged ys xs)

-- a list with one member more
pub IsPart-between : (before : List (List Mark)) (marks : List Mark) (behind : List (List Mark)) → IsPart (before ++ behind) (before ++ marks ∷ behind)
IsPart-between before marks behind p h =
    let parts = and_parts (list_all p before) (list_all p (marks ∷ behind)) (sym (list_all-append p before (marks ∷ behind)) ∙ h) in
    list_all-append p before behind ∙ and_from _ _ parts.0 (and_parts (p marks) (list_all p behind) parts.1).1

pub IsPart-filter : (p : List Mark → Bool) (set : List (List Mark)) → IsPart (filter p set) set
IsPart-filter p [] q h = refl
IsPart-filter p (marks ∷ set) q h =
    let parts = and_parts (q marks) (list_all q set) h in
    let rest = IsPart-filter p set q parts.1 in
    elim (cases_Bool (p marks)) [
      | inl e ↦ rw e (and_from _ _ parts.0 rest)
      | inr e ↦ rw e rest
    ]

-- no ranking keeps the conditions of these terms
abbrev pub is_hopeless : Problem → List Term → Bool
is_hopeless problem terms = no_ranking_keeps problem.constraints (map (condition_of problem) terms)

pub IsMonotone-hopeless : (problem : Problem) → IsMonotone (is_hopeless problem)
IsMonotone-hopeless problem before term behind h =
    rw (map-append (condition_of problem) before (term ∷ behind))
    (no_ranking_keeps-more problem.constraints _ _ (IsPart-between (map (condition_of problem) before) (condition_of problem term) (map (condition_of problem) behind)) (rw (map-append (condition_of problem) before behind) at h))
