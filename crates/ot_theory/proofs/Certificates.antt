-- The certificate of terms that no ranking keeps is a contradiction, each of whose terms is needed; and what a contradiction
-- refutes is refuted.
use Rattle.std.proofs.Common.{◌≡◌, ℕ, zero, suc, ◌+◌, ◌<◌, ◌≤◌, List, [], ◌∷◌, ◌++◌, Bool, true, false, not, ◌&&◌, ◌==◌, arith, refl, sym, ◌∙◌, ap, cond, inl, inr, length, map, flat_map}
use Rattle.std.specs.Prelude.{filter, slice_get, nat_lt}
use Rattle.std.specs.List.{list_all, list_any, range_with_len, enumerate_from}
use Rattle.std.specs.Option.{option_map_or}
use Rattle.std.proofs.lemmas.Bool.{and_parts, and_from, false_from_ne_true, ltb-true}
use Rattle.std.proofs.Math.Bool.{and_assoc}
use Rattle.std.proofs.lemmas.Bool.Decides.{eqb_tells, nat_tests}
use Rattle.std.proofs.lemmas.List.{map-append}
use Rattle.std.proofs.lemmas.List.Folds.{list_all-append, list_all-map}
use Rattle.ot_theory.specs.declared.Mark.{Mark}
use Rattle.ot_theory.specs.Rankings.{numbers_below}
use Rattle.ot_theory.specs.Conditions.{is_loss, fusion, is_contradictory}
use Rattle.ot_theory.specs.Problems.{Problem, givens}
use Rattle.ot_theory.specs.Languages.{Term, Loser, Given, classes_at, terms_of_class, terms_of_givens, terms_of, condition_of, conditions_of, refuted}
use Rattle.ot_theory.specs.Refutations.{no_ranking_keeps, is_term, agree, one_winner_each, is_contradiction, is_made, refutes, certificate_of, EachIsNeeded}
use Rattle.ot_theory.proofs.Enumeration.{any-map}
use Rattle.ot_theory.proofs.Strata.{any-range}
use Rattle.ot_theory.proofs.Hopeless.{fused_at, hopeless-fused}
use Rattle.ot_theory.proofs.Optimal.{IsFitting, all-flat_map, refuted-conditions}
use Rattle.ot_theory.proofs.Deletion.{kept_of-passes, kept_of-needed, kept_of-all}
use Rattle.ot_theory.proofs.Sets.{is_hopeless, IsMonotone-hopeless, no_ranking_keeps-more}
use Rattle.ot_theory.proofs.ContradictoryParts.{EachNeeded, contradictory-needed}

-- The certificate is kept by no ranking.
pub certificate-hopeless : (problem : Problem) (terms : List Term) → is_hopeless problem terms ≡ true → is_hopeless problem (certificate_of problem terms) ≡ true
unfolding certificate_of
certificate-hopeless problem terms h = kept_of-passes (is_hopeless problem) [] terms h

-- Without any one of its terms some ranking keeps it.
pub certificate-needed : (problem : Problem) (terms : List Term) → EachIsNeeded problem (certificate_of problem terms)
unfolding certificate_of
certificate-needed problem terms before term behind e = kept_of-needed (is_hopeless problem) (IsMonotone-hopeless problem) [] terms before term behind e

-- What all terms pass, those of the certificate pass.
pub certificate-all : (p : Term → Bool) (problem : Problem) (terms : List Term) → list_all p terms ≡ true → list_all p (certificate_of problem terms) ≡ true
unfolding certificate_of
certificate-all p problem terms h = kept_of-all p (is_hopeless problem) [] terms h

pub all-weaker : {X : Type 0} (p q : X → Bool) (xs : List X) → ((x : X) → p x ≡ true → q x ≡ true) → list_all p xs ≡ true → list_all q xs ≡ true
all-weaker p q [] f h = refl
all-weaker p q (x ∷ xs) f h = let parts = and_parts (p x) (list_all p xs) h in and_from _ _ (f x parts.0) (all-weaker p q xs f parts.1)

certificate-agree : (problem : Problem) (terms : List Term) → one_winner_each terms ≡ true → one_winner_each (certificate_of problem terms) ≡ true
certificate-agree problem terms h =
    all-weaker (λ s. list_all (agree s) terms) (λ s. list_all (agree s) (certificate_of problem terms)) (certificate_of problem terms)
    (λ s a. certificate-all (agree s) problem terms a) (certificate-all (λ s. list_all (agree s) terms) problem terms h)

-- a term, and the terms before and behind it, whose conditions are these
record Parted (problem : Problem) (terms : List Term) (before behind : List (List Mark)) : Type 0 where
  front : List Term
  it : Term
  rest : List Term
  whole : terms ≡ front ++ it ∷ rest
  front_is : map (condition_of problem) front ≡ before
  rest_is : map (condition_of problem) rest ≡ behind

parted : (problem : Problem) (terms : List Term) (before : List (List Mark)) (marks : List Mark) (behind : List (List Mark)) → map (condition_of problem) terms ≡ before ++ marks ∷ behind → Parted problem terms before behind
parted problem [] [] marks behind e = absurd (cc)
parted problem [] (m ∷ before) marks behind e = absurd (cc)
parted problem (t ∷ terms) [] marks behind e = record { front = []; it = t; rest = terms; whole = refl; front_is = refl; rest_is = cc }
parted problem (t ∷ terms) (m ∷ before) marks behind e =
    more (let head : condition_of problem t ≡ m = cc in head) (parted problem terms before marks behind (cc))
  where
    more : condition_of problem t ≡ m → Parted problem terms before behind → Parted problem (t ∷ terms) (m ∷ before) behind
    more head p = record { front = t ∷ p.front; it = p.it; rest = p.rest; whole = ap (λ (l : List Term). t ∷ l) p.whole; front_is = rw (head, p.front_is) refl; rest_is = p.rest_is }

conditions-needed : (problem : Problem) (terms : List Term) → EachIsNeeded problem terms → EachNeeded problem.constraints (map (condition_of problem) terms)
conditions-needed problem terms needed before marks behind e = without (parted problem terms before marks behind e)
  where
    without : Parted problem terms before behind → no_ranking_keeps problem.constraints (before ++ behind) ≡ false
    without p = rw (p.front_is, p.rest_is) at (rw (map-append (condition_of problem) p.front p.rest) at (needed p.front p.it p.rest p.whole))

-- Terms that no ranking keeps, each of which is needed for that, fuse to an L and no W.
pub needed-contradictory : (problem : Problem) (terms : List Term) → is_hopeless problem terms ≡ true → EachIsNeeded problem terms
    → is_contradictory (fusion problem.constraints (map (condition_of problem) terms)) ≡ true
needed-contradictory problem terms h needed = contradictory-needed problem.constraints (map (condition_of problem) terms) h (conditions-needed problem terms needed)

-- no conditions fuse to an L
pub none-contradictory : (n : ℕ) → is_contradictory (fusion n []) ≡ true → ⊥
none-contradictory n h =
    let some : list_any (λ c. is_loss (fused_at [] c)) (numbers_below n) ≡ true = sym (any-map is_loss (fused_at []) (numbers_below n)) ∙ (and_parts _ _ h).0 in
    let r = any-range (λ c. is_loss (fused_at [] c)) 0 n some in
    let no : false ≡ true = r.passes in
    cc

-- Terms with one winner for each input that no ranking keeps, each of which is needed for that, are a contradiction.
pub needed-contradiction : (problem : Problem) (terms : List Term) → list_all (is_term problem) terms ≡ true → one_winner_each terms ≡ true → is_hopeless problem terms ≡ true → EachIsNeeded problem terms → is_contradiction problem terms ≡ true
unfolding is_contradiction
needed-contradiction problem terms genuine one h needed = by terms genuine one (needed-contradictory problem terms h needed)
  where
    by : (terms : List Term) → list_all (is_term problem) terms ≡ true → one_winner_each terms ≡ true → is_contradictory (fusion problem.constraints (map (condition_of problem) terms)) ≡ true
        → (not (length terms == 0) && list_all (is_term problem) terms && one_winner_each terms && is_contradictory (fusion problem.constraints (map (condition_of problem) terms))) ≡ true
    by [] g o c = absurd (none-contradictory problem.constraints c)
    by (t ∷ terms) g o c = and_from _ _ (and_from _ _ (and_from _ _ (some t terms) g) o) c
      where
        some : (t : Term) (terms : List Term) → not (length (t ∷ terms) == 0) ≡ true
        some t terms = grind (arith, nat_tests)

-- The certificate of such terms is a contradiction.
pub certificate-contradiction : (problem : Problem) (terms : List Term) → list_all (is_term problem) terms ≡ true → one_winner_each terms ≡ true → is_hopeless problem terms ≡ true → is_contradiction problem (certificate_of problem terms) ≡ true
certificate-contradiction problem terms genuine one h =
    needed-contradiction problem (certificate_of problem terms) (certificate-all (is_term problem) problem terms genuine) (certificate-agree problem terms one)
    (certificate-hopeless problem terms h) (certificate-needed problem terms)

-- no ranking keeps the conditions of a contradiction
pub contradiction-hopeless : (problem : Problem) (terms : List Term) → is_contradiction problem terms ≡ true → is_hopeless problem terms ≡ true
unfolding is_contradiction
contradiction-hopeless problem terms h = hopeless-fused problem.constraints (map (condition_of problem) terms) (and_parts _ _ h).1

-- what all of a prefix pass with their numbers, the class of an input passes
at_place : (q : ℕ × ℕ → Bool) (k : ℕ) (prefix : List ℕ) (i w : ℕ) → option_map_or (λ a. a == w) (slice_get prefix i) false ≡ true → list_all q (enumerate_from k prefix) ≡ true → q (k + i, w) ≡ true
at_place q k [] i w h all = absurd (cc)
at_place q k (x ∷ prefix) zero w h all = elim (eqb_tells x w) [
  | inl same ↦ let e : k + zero ≡ k = omega arith in rw (e, ← same.1) (and_parts _ _ all).0
  | inr other ↦ absurd (let no : true ≡ false = sym h ∙ other.0 in cc)
]
at_place q k (x ∷ prefix) (suc i) w h all = let e : k + suc i ≡ k + 1 + i = omega arith in rw e (at_place q (k + 1) prefix i w h (and_parts _ _ all).1)

-- what the filtered numbers of a range pass, each of them that is kept passes
at_number : (r s : ℕ → Bool) (a n d : ℕ) → list_all r (filter s (range_with_len a n)) ≡ true → a ≤ d → d < a + n → s d ≡ true → r d ≡ true
at_number r s a zero d h l u p = absurd (omega arith)
at_number r s a (suc n) d h l u p = elim (eqb_tells a d) [
  | inl same ↦ let here : s a ≡ true = rw (← same.1) at p in rw (← same.1) (and_parts _ _ (rw here at h)).0
  | inr other ↦ at_number r s (a + 1) n d (rest (s a) h) (omega (arith, other.1)) (omega arith) p
]
  where
    rest : (b : Bool) → list_all r (cond b (a ∷ filter s (range_with_len (a + 1) n)) (filter s (range_with_len (a + 1) n))) ≡ true → list_all r (filter s (range_with_len (a + 1) n)) ≡ true
    rest true h = (and_parts _ _ h).1
    rest false h = h

-- A given pair, and a term whose winner choice a prefix makes, is one of the terms of the prefix: what all of those pass, it passes.
term_stands : (problem : Problem) (prefix : List ℕ) (term : Term) → is_term problem term ≡ true → is_made prefix term ≡ true → (p : Term → Bool) → list_all p (terms_of problem prefix) ≡ true → p term ≡ true
term_stands problem prefix (Loser i a b) genuine made p all =
    let other = and_parts _ (not (b == a)) genuine in
    let loser = ltb-true _ _ (and_parts _ (nat_lt b (length (classes_at problem i))) other.0).1 in
    let those : ℕ × ℕ → List Term = λ (j, c). terms_of_class (classes_at problem j) j c in
    let of_classes = (and_parts _ _ (sym (list_all-append p (terms_of_givens problem) (flat_map those (enumerate_from 0 prefix))) ∙ all)).1 in
    let at_input : list_all p (terms_of_class (classes_at problem (0 + i)) (0 + i) a) ≡ true =
    at_place (λ (j, c). list_all p (terms_of_class (classes_at problem j) j c)) 0 prefix i a made (sym (all-flat_map p those (enumerate_from 0 prefix)) ∙ of_classes) in
    let same : 0 + i ≡ i = omega arith in
    let of_class : list_all p (terms_of_class (classes_at problem i) i a) ≡ true = rw same at at_input in
    at_number (λ c. p (Loser i a c)) (λ c. not (c == a)) 0 (length (classes_at problem i)) b
    (sym (list_all-map p (Loser i a) (filter (λ c. not (c == a)) (numbers_below (length (classes_at problem i))))) ∙ of_class)
    (omega arith) (omega arith) other.1
term_stands problem prefix (Given k) genuine made p all =
    let of_givens = (and_parts _ _ (sym (list_all-append p (terms_of_givens problem) (flat_map (λ (j, c). terms_of_class (classes_at problem j) j c) (enumerate_from 0 prefix))) ∙ all)).0 in
    let below = ltb-true _ _ genuine in
    in_range (λ c. p (Given c)) 0 (length (givens problem)) k (sym (list_all-map p Given (numbers_below (length (givens problem)))) ∙ of_givens) (omega arith) (omega arith)
  where
    in_range : (r : ℕ → Bool) (a n d : ℕ) → list_all r (range_with_len a n) ≡ true → a ≤ d → d < a + n → r d ≡ true
    in_range r a zero d h l u = absurd (omega arith)
    in_range r a (suc n) d h l u = elim (eqb_tells a d) [
      | inl same ↦ rw (← same.1) (and_parts _ _ h).0
      | inr other ↦ in_range r (a + 1) n d (and_parts _ _ h).1 (omega (arith, other.1)) (omega arith)
    ]

-- The terms of a contradiction that refutes a prefix are among those of the prefix.
pub terms_stand : (problem : Problem) (prefix : List ℕ) (terms : List Term) → list_all (is_term problem) terms ≡ true → refutes terms prefix ≡ true → (p : Term → Bool) → list_all p (terms_of problem prefix) ≡ true → list_all p terms ≡ true
terms_stand problem prefix [] genuine made p all = refl
terms_stand problem prefix (term ∷ terms) genuine made p all =
    let g = and_parts (is_term problem term) (list_all (is_term problem) terms) genuine in
    let m = and_parts _ (refutes terms prefix) made in
    and_from _ _ (term_stands problem prefix term g.0 m.0 p all) (terms_stand problem prefix terms g.1 m.1 p all)

-- What a contradiction refutes, no ranking makes.
pub contradiction-refutes : (problem : Problem) (terms : List Term) (prefix : List ℕ) → IsFitting problem prefix → is_contradiction problem terms ≡ true → refutes terms prefix ≡ true → refuted problem prefix ≡ true
unfolding is_contradiction
contradiction-refutes problem terms prefix fits h made =
    let genuine = (and_parts _ _ (and_parts _ _ (and_parts _ _ h).0).0).1 in
    refuted-conditions problem prefix fits
    ∙ no_ranking_keeps-more problem.constraints (map (condition_of problem) terms) (conditions_of problem prefix)
    (λ p all. list_all-map p (condition_of problem) terms ∙ terms_stand problem prefix terms genuine made (λ t. p (condition_of problem t)) (sym (list_all-map p (condition_of problem) (terms_of problem prefix)) ∙ all))
    (contradiction-hopeless problem terms h)

-- What makes some terms a contradiction, in the order in which it is tried: that there are some follows from the L of their fusion.
pub contradiction-tried : (problem : Problem) (terms : List Term) → is_contradiction problem terms
    ≡ (list_all (is_term problem) terms && (one_winner_each terms && is_contradictory (fusion problem.constraints (map (condition_of problem) terms))))
unfolding is_contradiction
contradiction-tried problem [] = sym (false_from_ne_true _ (none-contradictory problem.constraints))
contradiction-tried problem (t ∷ terms) = by (length (t ∷ terms)) (list_all (is_term problem) (t ∷ terms)) (one_winner_each (t ∷ terms)) (is_contradictory (fusion problem.constraints (map (condition_of problem) (t ∷ terms)))) (omega arith)
  where
    by : (n : ℕ) (a b c : Bool) → 0 < n → (not (n == 0) && a && b && c) ≡ (a && (b && c))
    by n a b c some = elim (eqb_tells n 0) [
      | inl none ↦ absurd (omega (arith, none.1))
      | inr other ↦ rw other.0 (and_assoc a b c)
    ]
