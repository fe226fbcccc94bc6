-- The terms of a prefix, a class after another. The prefix makes the winner choice of each, so each input has one winner in them.
use Rattle.std.proofs.Common.{◌≡◌, ℕ, zero, suc, ◌+◌, ◌<◌, ◌≤◌, List, [], ◌∷◌, ◌++◌, Bool, true, not, ◌==◌, arith, refl, sym, ◌∙◌, ap, inl, inr, length, Some, eq-eqb, take, take_all, get_or, flat_map}
use Rattle.std.specs.Prelude.{filter, slice_get, slice_index}
use Rattle.std.specs.List.{list_all, range_with_len, enumerate_from}
use Rattle.std.proofs.lemmas.Bool.{and_from, cases_Bool, lt-ltb}
use Rattle.std.proofs.lemmas.List.{append-nil, append_assoc, length-map, length-take, map_more}
use Rattle.std.proofs.lemmas.List.Concat.{flat_map-append}
use Rattle.std.proofs.lemmas.List.Folds.{list_all-append, list_all-map}
use Rattle.std.proofs.lemmas.Option.{get_or_from_slice_get, slice_get_within}
use Rattle.ot_base.specs.declared.tableau.ClassId.{ClassId}
use Rattle.ot_theory.specs.Rankings.{numbers_below}
use Rattle.ot_theory.specs.Problems.{Problem, givens}
use Rattle.ot_theory.specs.Languages as theory
use Rattle.ot_theory.specs.Languages.{Loser, Given, classes_at, refuted, terms_of, terms_of_class, terms_of_givens}
use Rattle.ot_theory.specs.Refutations.{certificate_of, is_term, one_winner_each, refutes}
use Rattle.ot_theory.proofs.Certificates.{all-weaker, certificate-all}
use Rattle.ot_theory.proofs.Optimal.{all-flat_map, refuted-conditions}
use Rattle.ot_theory.proofs.Sets.{is_hopeless}
use Rattle.ot_theory.proofs.Terms.{term}
use Rattle.ot_theory.proofs.WinnerTerms.{chosen-one, givens-all, is_chosen}
use Rattle.violation_profiles.proofs.Inputs.{AllFit-prefix}
use Rattle.violation_profiles.specs.WellFormed.{IsPrefix, IsWellFormed}
use Rattle.refutation.specs.declared.term.Term.{Term}
use Rattle.refutation.specs.Prefixes.{class_numbers, is_made}
use Rattle.refutation.specs.Terms.{are_terms, term_of, terms_in}

enumerate-push : (k : ℕ) (xs : List ℕ) (x : ℕ) → enumerate_from k (xs ++ x ∷ []) ≡ enumerate_from k xs ++ (k + length xs, x) ∷ []
enumerate-push k [] x = let e : k + 0 ≡ k = omega arith in rw e refl
enumerate-push k (y ∷ xs) x = let e : k + suc (length xs) ≡ k + 1 + length xs = omega arith in rw (enumerate-push (k + 1) xs x, e) refl

-- One class more adds its terms.
pub terms_of-push : (problem : Problem) (prefix : List ℕ) (i a : ℕ) → length prefix ≡ i → terms_of problem (prefix ++ a ∷ []) ≡ terms_of problem prefix ++ terms_of_class (classes_at problem i) i a
terms_of-push problem prefix i a h =
    let terms : ℕ × ℕ → List theory.Term = λ (j, b). terms_of_class (classes_at problem j) j b in
    let e : 0 + length prefix ≡ i = omega arith in
    rw (enumerate-push 0 prefix a, e, flat_map-append terms (enumerate_from 0 prefix) ((i, a) ∷ []), append-nil (terms (i, a)))
    (sym (append_assoc (terms_of_givens problem) (flat_map terms (enumerate_from 0 prefix)) (terms (i, a))))

-- the terms of no class are the given pairs
pub terms_of-none : (problem : Problem) → terms_of problem [] ≡ terms_of_givens problem
terms_of-none problem = append-nil (terms_of_givens problem)

-- the terms of the first classes, with those of one class more
pub terms-more : (problem : Problem) (classes : List ClassId) (i : ℕ) (d : ClassId) (old new : List theory.Term) → i < length classes → old ≡ terms_of problem (class_numbers (take i classes))
    → new ≡ old ++ terms_of_class (classes_at problem i) i (get_or classes i d).0 → new ≡ terms_of problem (class_numbers (take (i + 1) classes))
terms-more problem classes i d old new below h e =
    let front = class_numbers (take i classes) in
    let long : length front ≡ i = omega (arith, length-map (take i classes) (λ class. class.0), length-take i classes) in
    e ∙ rw (h, map_more (λ class. class.0) classes i d below) (sym (terms_of-push problem front i (get_or classes i d).0 long))

-- those of all of them
pub terms-whole : (problem : Problem) (classes : List ClassId) (i : ℕ) (terms : List theory.Term) → length classes ≤ i → terms ≡ terms_of problem (class_numbers (take i classes)) → terms ≡ terms_of problem (class_numbers classes)
terms-whole problem classes i terms all e = e ∙ ap (λ (l : List ClassId). terms_of problem (class_numbers l)) (take_all i classes all)

all-enumerated : (q : ℕ × ℕ → Bool) (k : ℕ) (xs : List ℕ) → ((j a : ℕ) → slice_get xs j ≡ Some a → q (k + j, a) ≡ true) → list_all q (enumerate_from k xs) ≡ true
all-enumerated q k [] h = refl
all-enumerated q k (x ∷ xs) h =
    let here : k + 0 ≡ k = omega arith in
    and_from _ _ (rw here at (h 0 x refl)) (all-enumerated q (k + 1) xs (λ j a e. let next : k + suc j ≡ k + 1 + j = omega arith in rw next at (h (suc j) a e)))

all-filtered : (q s : ℕ → Bool) (a n : ℕ) → ((b : ℕ) → b < a + n → s b ≡ true → q b ≡ true) → list_all q (filter s (range_with_len a n)) ≡ true
all-filtered q s a zero h = refl
all-filtered q s a (suc n) h =
    let rest = all-filtered q s (a + 1) n (λ b below p. h b (omega arith) p) in
    elim (cases_Bool (s a)) [
      | inl e ↦ rw e (and_from _ _ (h a (omega arith) e) rest)
      | inr e ↦ rw e rest
    ]

-- what each given pair and each of its classes against each other class of the input passes, all terms of a prefix pass
terms_of-all : (q : theory.Term → Bool) (problem : Problem) (prefix : List ℕ) → ((k : ℕ) → k < length (givens problem) → q (Given k) ≡ true)
    → ((i a b : ℕ) → slice_get prefix i ≡ Some a → b < length (classes_at problem i) → not (b == a) ≡ true → q (term i a b) ≡ true) → list_all q (terms_of problem prefix) ≡ true
terms_of-all q problem prefix g h =
    list_all-append q (terms_of_givens problem) (flat_map (λ (i, a). terms_of_class (classes_at problem i) i a) (enumerate_from 0 prefix))
    ∙ and_from _ _ (givens-all q problem g)
    (all-flat_map q (λ (i, a). terms_of_class (classes_at problem i) i a) (enumerate_from 0 prefix)
    ∙ all-enumerated (λ (i, a). list_all q (terms_of_class (classes_at problem i) i a)) 0 prefix (λ i a e. let same : 0 + i ≡ i = omega arith in rw same (of_class i a e)))
  where
    of_class : (i a : ℕ) → slice_get prefix i ≡ Some a → list_all q (terms_of_class (classes_at problem i) i a) ≡ true
    of_class i a e =
        list_all-map q (term i a) (filter (λ b. not (b == a)) (numbers_below (length (classes_at problem i))))
        ∙ all-filtered (λ b. q (term i a b)) (λ b. not (b == a)) 0 (length (classes_at problem i)) (λ b below other. h i a b e (omega arith) other)

-- The terms of a prefix refute it, if no ranking keeps them.
pub terms_of-made : (problem : Problem) (prefix : List ℕ) → refutes (terms_of problem prefix) prefix ≡ true
terms_of-made problem prefix = terms_of-all (is_made prefix) problem prefix (λ k below. refl) (λ i a b e below other. rw e (eq-eqb a a refl))

-- They are terms of the problem.
pub terms_of-genuine : (problem : Problem) (prefix : List ℕ) → IsPrefix problem prefix → list_all (is_term problem) (terms_of problem prefix) ≡ true
terms_of-genuine problem prefix p = terms_of-all (is_term problem) problem prefix (λ k below. lt-ltb _ _ below) (λ i a b e below other.
    let short = slice_get_within prefix i a e in
    let same : slice_index prefix i ≡ a = get_or_from_slice_get prefix i a 0 e in
    let class = p.within i short in
    and_from _ _ (and_from _ _ (and_from _ _ (lt-ltb i (length problem.inputs) (omega (arith, p.short))) (lt-ltb a (length (classes_at problem i)) (omega (arith, same, class)))) (lt-ltb _ _ below)) other)

-- Where a prefix makes the winner choice of each term, each input has one winner in them.
pub made-one : (prefix : List ℕ) (terms : List theory.Term) → refutes terms prefix ≡ true → one_winner_each terms ≡ true
made-one prefix terms h = chosen-one (slice_get prefix) terms (all-weaker (is_made prefix) (is_chosen (slice_get prefix)) terms made h)
  where
    made : (t : theory.Term) → is_made prefix t ≡ true → is_chosen (slice_get prefix) t ≡ true
    made (Loser i a b) e = e
    made (Given k) e = refl

pub are_terms-of_prefix : (problem : Problem) (prefix : List ℕ) (terms : List Term) → IsPrefix problem prefix → terms_in terms ≡ terms_of problem prefix → are_terms problem terms ≡ true
are_terms-of_prefix problem prefix terms p e = sym (list_all-map (is_term problem) term_of terms) ∙ rw e (terms_of-genuine problem prefix p)

pub one_winner-of_prefix : (problem : Problem) (prefix : List ℕ) (terms : List Term) → terms_in terms ≡ terms_of problem prefix → one_winner_each (terms_in terms) ≡ true
one_winner-of_prefix problem prefix terms e = rw e (made-one prefix (terms_of problem prefix) (terms_of-made problem prefix))

-- No ranking keeps the terms of a refuted prefix.
pub hopeless-of_prefix : (problem : Problem) (prefix : List ℕ) (terms : List Term) → IsWellFormed problem → IsPrefix problem prefix → terms_in terms ≡ terms_of problem prefix → refuted problem prefix ≡ true
    → is_hopeless problem (terms_in terms) ≡ true
hopeless-of_prefix problem prefix terms well p e h = rw e (sym (refuted-conditions problem prefix (AllFit-prefix problem prefix well p)) ∙ h)

-- Their certificate refutes the prefix.
pub certificate-refutes : (problem : Problem) (prefix : List ℕ) (core : List theory.Term) → core ≡ certificate_of problem (terms_of problem prefix) → refutes core prefix ≡ true
certificate-refutes problem prefix core e = rw e (certificate-all (is_made prefix) problem (terms_of problem prefix) (terms_of-made problem prefix))
