-- Entailment, ranking by ranking, and by the condition with W and L exchanged.
use Rattle.std.proofs.Common.{◌≡◌, ◌≢◌, ℕ, zero, suc, ◌<◌, List, [], ◌∷◌, map, Bool, true, false, not, ◌||◌, ◌&&◌, arith, refl, sym, ◌∙◌, ap, inl, inr, length, Some, Option}
use Rattle.std.specs.Prelude.{find}
use Rattle.std.specs.List.{list_all, list_any}
use Rattle.std.proofs.lemmas.Bool.{and_parts, and_from, not-true, cases_Bool}
use Rattle.ot_theory.specs.declared.Mark.{Mark}
use Rattle.ot_theory.specs.declared.Mark.TheVariants.{W, L, E}
use Rattle.ot_theory.specs.Rankings.{IsRanking, rankings, count_of}
use Rattle.ot_theory.specs.Conditions.{keeps, mark_at, exchanged, is_even, is_win}
use Rattle.ot_theory.specs.Refutations.{no_ranking_keeps}
use Rattle.ot_theory.specs.Entailment.{entails}
use Rattle.ot_theory.proofs.Enumeration.{any-ranking, ranking-found, count_past}
use Rattle.ot_theory.proofs.Sets.{both_ways}

-- Not all rankings pass a test exactly where one fails it.
all-not-any : {X : Type 0} (p q : X → Bool) → ((x : X) → p x ≡ not (q x)) → (xs : List X) → list_all p xs ≡ not (list_any q xs)
all-not-any p q e [] = refl
all-not-any p q e (x ∷ xs) = rw (e x, all-not-any p q e xs) (by (q x) (list_any q xs))
  where
    by : (b d : Bool) → (not b && not d) ≡ not (b || d)
    by true d = refl
    by false d = refl

-- a ranking that keeps a set and not a condition
abbrev pub parts_from : List (List Mark) → List Mark → List ℕ → Bool
parts_from set marks order = list_all (keeps order) set && not (keeps order marks)

entails-none : (n : ℕ) (set : List (List Mark)) (marks : List Mark) → entails n set marks ≡ not (list_any (parts_from set marks) (rankings n))
unfolding entails
entails-none n set marks = all-not-any _ (parts_from set marks) (λ order. by (list_all (keeps order) set) (keeps order marks)) (rankings n)
  where
    by : (b d : Bool) → (not b || d) ≡ not (b && not d)
    by true true = refl
    by true false = refl
    by false d = refl

-- What a set entails, each ranking that keeps the set keeps.
pub entails-keeps : (n : ℕ) (set : List (List Mark)) (marks : List Mark) → entails n set marks ≡ true → (order : List ℕ) → IsRanking n order → list_all (keeps order) set ≡ true → keeps order marks ≡ true
entails-keeps n set marks h order ranking kept = elim (cases_Bool (keeps order marks)) [
  | inl e ↦ e
  | inr e ↦
      let parted : parts_from set marks order ≡ true = and_from _ _ kept (ap not e) in
      let some = any-ranking n order (parts_from set marks) ranking parted in
      let no : true ≡ false = sym some ∙ not-true _ (sym (entails-none n set marks) ∙ h) in
      absurd (cc)
]

-- What each ranking keeps that keeps a set, the set entails.
pub entails-from : (n : ℕ) (set : List (List Mark)) (marks : List Mark) → ((order : List ℕ) → IsRanking n order → list_all (keeps order) set ≡ true → keeps order marks ≡ true) → entails n set marks ≡ true
entails-from n set marks each = elim (cases_Bool (list_any (parts_from set marks) (rankings n))) [
  | inl found ↦
      let f = ranking-found n (parts_from set marks) found in
      let parts = and_parts _ _ f.passes in
      let no : true ≡ false = sym (each f.order f.ranking parts.0) ∙ not-true _ parts.1 in
      absurd (cc)
  | inr none ↦ entails-none n set marks ∙ ap not none
]

pub mark_at-exchanged : (marks : List Mark) (c : ℕ) → mark_at (map exchanged marks) c ≡ exchanged (mark_at marks c)
mark_at-exchanged [] c = refl
mark_at-exchanged (m ∷ marks) zero = refl
mark_at-exchanged (m ∷ marks) (suc c) = mark_at-exchanged marks c

-- the first constraint of a ranking whose mark is not e
abbrev pub first_mark : List ℕ → List Mark → Option ℕ
first_mark order marks = find (λ c. not (is_even (mark_at marks c))) order

pub record Decided (order : List ℕ) (marks : List Mark) : Type 0 where
  pub it : ℕ
  pub first : first_mark order marks ≡ Some it
  pub mark : is_even (mark_at marks it) ≡ false

first_mark-past : (x : ℕ) (order : List ℕ) (marks : List Mark) (c : ℕ) → is_even (mark_at marks x) ≡ true → first_mark order marks ≡ Some c → first_mark (x ∷ order) marks ≡ Some c
first_mark-past x order marks c even first = rw even first

-- where some constraint of the ranking has a mark that is not e, there is a first
pub decided : (order : List ℕ) (marks : List Mark) (c : ℕ) → 0 < count_of c order → is_even (mark_at marks c) ≡ false → Decided order marks
decided [] marks c h e = absurd (omega arith)
decided (x ∷ order) marks c h e = elim (cases_Bool (is_even (mark_at marks x))) [
  | inl even ↦
      let other : x ≢ c = λ same. let no : true ≡ false = sym even ∙ ap (λ y. is_even (mark_at marks y)) same ∙ e in cc in
      let r = decided order marks c (omega (arith, count_past c x order other)) e in
      record { it = r.it; first = first_mark-past x order marks r.it even r.first; mark = r.mark }
  | inr marked ↦ record { it = x; first = rw marked refl; mark = marked }
]

is_even-exchanged : (m : Mark) → is_even (exchanged m) ≡ is_even m
is_even-exchanged W = refl
is_even-exchanged L = refl
is_even-exchanged E = refl

find-exchanged : (marks : List Mark) (order : List ℕ) → first_mark order (map exchanged marks) ≡ first_mark order marks
find-exchanged marks [] = refl
find-exchanged marks (x ∷ order) = rw (mark_at-exchanged marks x, find-exchanged marks order, is_even-exchanged (mark_at marks x)) refl

record Marked (marks : List Mark) : Type 0 where
  at : ℕ
  within : at < length marks
  mark : is_even (mark_at marks at) ≡ false

marked_somewhere : (marks : List Mark) → list_all is_even marks ≡ false → Marked marks
marked_somewhere [] h = absurd (cc)
marked_somewhere (m ∷ marks) h = elim (cases_Bool (is_even m)) [
  | inl even ↦
      let r = marked_somewhere marks (rw even at h) in
      record { at = suc r.at; within = omega (arith, r.within); mark = r.mark }
  | inr marked ↦ record { at = 0; within = omega arith; mark = marked }
]

-- Of a condition with a mark that is not e, a ranking keeps either it or the condition with W and L exchanged.
pub keeps-exchanged : (n : ℕ) (order : List ℕ) (marks : List Mark) → IsRanking n order → length marks ≡ n → list_all is_even marks ≡ false → keeps order (map exchanged marks) ≡ not (keeps order marks)
keeps-exchanged n order marks ranking width some =
    let m = marked_somewhere marks some in
    let d = decided order marks m.at (omega (arith, ranking.each m.at (omega (arith, m.within, width)))) m.mark in
    rw (find-exchanged marks order, d.first, mark_at-exchanged marks d.it) (by (mark_at marks d.it) d.mark)
  where
    by : (m : Mark) → is_even m ≡ false → is_win (exchanged m) ≡ not (is_win m)
    by W e = refl
    by L e = refl
    by E e = absurd (cc)

-- Each ranking keeps a condition whose marks are all e.
pub keeps-even : (order : List ℕ) (marks : List Mark) → list_all is_even marks ≡ true → keeps order marks ≡ true
keeps-even [] marks h = refl
keeps-even (x ∷ order) marks h = rw (even_at marks x h) (keeps-even order marks h)
  where
    even_at : (marks : List Mark) (c : ℕ) → list_all is_even marks ≡ true → is_even (mark_at marks c) ≡ true
    even_at [] c h = refl
    even_at (m ∷ marks) zero h = (and_parts _ _ h).0
    even_at (m ∷ marks) (suc c) h = even_at marks c (and_parts _ _ h).1

-- A set entails a condition with a mark that is not e exactly where no ranking keeps the set and the condition with W and L
-- exchanged.
pub entails-by_negation : (n : ℕ) (set : List (List Mark)) (marks : List Mark) → length marks ≡ n → entails n set marks ≡ (list_all is_even marks || no_ranking_keeps n (map exchanged marks ∷ set))
unfolding no_ranking_keeps
entails-by_negation n set marks width = elim (cases_Bool (list_all is_even marks)) [
  | inl even ↦ rw even (entails-from n set marks (λ order ranking kept. keeps-even order marks even))
  | inr some ↦ rw some (both_ways _ _ (into some) (out some))
]
  where
    into : list_all is_even marks ≡ false → entails n set marks ≡ true → no_ranking_keeps n (map exchanged marks ∷ set) ≡ true
    into some h = elim (cases_Bool (list_any (λ order. list_all (keeps order) (map exchanged marks ∷ set)) (rankings n))) [
      | inl found ↦
          let f = ranking-found n (λ order. list_all (keeps order) (map exchanged marks ∷ set)) found in
          let parts = and_parts _ _ f.passes in
          let kept = entails-keeps n set marks h f.order f.ranking parts.1 in
          let no : true ≡ false = sym parts.0 ∙ keeps-exchanged n f.order marks f.ranking width some ∙ ap not kept in
          absurd (cc)
      | inr none ↦ ap not none
    ]

    out : list_all is_even marks ≡ false → no_ranking_keeps n (map exchanged marks ∷ set) ≡ true → entails n set marks ≡ true
    out some h = entails-from n set marks (λ order ranking kept. elim (cases_Bool (keeps order marks)) [
      | inl e ↦ e
      | inr e ↦
          let both : list_all (keeps order) (map exchanged marks ∷ set) ≡ true = and_from _ _ (keeps-exchanged n order marks ranking width some ∙ ap not e) kept in
          let found = any-ranking n order (λ order. list_all (keeps order) (map exchanged marks ∷ set)) ranking both in
          let no : true ≡ false = sym found ∙ not-true _ h in
          absurd (cc)
    ])
