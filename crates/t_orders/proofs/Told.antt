-- The implications of a problem are those that its languages tell.
use Rattle.std.proofs.Common.{◌≡◌, ℕ, zero, suc, ◌+◌, ◌<◌, ◌≤◌, List, [], ◌∷◌, Bool, arith, refl, length, map, flat_map}
use Rattle.std.specs.Prelude.{All, filter}
use Rattle.std.specs.List.{range_with_len}
use Rattle.std.proofs.lemmas.List.Elements.{All-cons, All-head, All-map, All-tail, All-weaker}
use Rattle.ot_theory.specs.Rankings.{numbers_below}
use Rattle.ot_theory.specs.Problems.{Problem}
use Rattle.ot_theory.specs.Languages.{classes_at, languages}
use Rattle.ot_theory.proofs.Classes.{All-flat_map}
use Rattle.refutation.specs.declared.implication.Implication.{Implication}
use Rattle.violation_profiles.specs.WellFormed.{IsWellFormed}
use Rattle.t_orders.specs.Implications.{Output, outputs, is_listed, is_listed_by, implication, implications, implications_by}
use Rattle.t_orders.proofs.ReadOff.{possible_by_languages, implied_by_languages}

-- ---- the outputs of a problem
abbrev IsOf : Problem → Output → Type 0
IsOf problem output = output.input < length problem.inputs

range-below : (a k n : ℕ) → a + k ≤ n → All (λ c. c < n) (range_with_len a k)
range-below a zero n within = λ k d h. absurd (omega (arith, h))
range-below a (suc k) n within = All-cons (λ (c : ℕ). c < n) a (range_with_len (a + 1) k) (omega (arith, within)) (range-below (a + 1) k n (omega (arith, within)))

outputs-of : (problem : Problem) → All (IsOf problem) (outputs problem)
outputs-of problem =
    let classes : ℕ → List ℕ = λ i. numbers_below (length (classes_at problem i)) in
    let at : ℕ → ℕ → Output = λ i a. record { input = i; class = a } in
    All-flat_map (IsOf problem) (λ i. map (at i) (classes i)) (numbers_below (length problem.inputs))
    (All-weaker (λ i. i < length problem.inputs) (λ i. All (IsOf problem) (map (at i) (classes i))) (λ i below. All-map (IsOf problem) (at i) (classes i) (λ k d h. below)) (numbers_below (length problem.inputs))
    (range-below 0 (length problem.inputs) (length problem.inputs) (omega arith)))

-- ---- what agrees of each element
filter-each : {X : Type 0} (p q : X → Bool) (xs : List X) → All (λ x. p x ≡ q x) xs → filter p xs ≡ filter q xs
filter-each p q [] h = refl
filter-each p q (x ∷ xs) h = rw (All-head (λ x. p x ≡ q x) x xs h, filter-each p q xs (All-tail (λ x. p x ≡ q x) x xs h)) refl

flat_map-each : {X Y : Type 0} (f g : X → List Y) (xs : List X) → All (λ x. f x ≡ g x) xs → flat_map f xs ≡ flat_map g xs
flat_map-each f g [] h = refl
flat_map-each f g (x ∷ xs) h = rw (All-head (λ x. f x ≡ g x) x xs h, flat_map-each f g xs (All-tail (λ x. f x ≡ g x) x xs h)) refl

-- ---- the implications
same-test : (problem : Problem) (from to : Output) → IsWellFormed problem → IsOf problem from → IsOf problem to → is_listed problem from to ≡ is_listed_by (languages problem) from to
same-test problem from to well below_from below_to = rw (possible_by_languages problem from well below_from, implied_by_languages problem from to well below_from below_to) refl

pub told_by_languages : (problem : Problem) → IsWellFormed problem → implications problem ≡ implications_by problem (languages problem)
unfolding implications implications_by
told_by_languages problem well =
    flat_map-each (from_all (is_listed problem)) (from_all (is_listed_by (languages problem))) (outputs problem)
    (All-weaker (IsOf problem) (λ from. from_all (is_listed problem) from ≡ from_all (is_listed_by (languages problem)) from) same (outputs problem) (outputs-of problem))
  where
    from_all : (Output → Output → Bool) → Output → List Implication
    from_all test from = map (implication from) (filter (test from) (outputs problem))

    same : (from : Output) → IsOf problem from → from_all (is_listed problem) from ≡ from_all (is_listed_by (languages problem)) from
    same from below =
        let kept = filter-each (is_listed problem from) (is_listed_by (languages problem) from) (outputs problem)
        (All-weaker (IsOf problem) (λ to. is_listed problem from to ≡ is_listed_by (languages problem) from to) (λ to within. same-test problem from to well below within) (outputs problem) (outputs-of problem)) in
        rw kept refl
