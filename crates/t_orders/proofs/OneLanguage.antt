-- Under each ranking that keeps the given pairs one language holds, and no other.
use Rattle.std.proofs.Common.{◌≡◌, ℕ, zero, suc, ◌<◌, List, [], ◌∷◌, Bool, true, false, not, ◌||◌, ◌&&◌, arith, refl, sym, ◌∙◌, ap, inl, inr, length, slice_index, slice_index_or, flat_map, map, subst}
use Rattle.std.specs.Prelude.{All, Contains, filter, nat_eq}
use Rattle.std.specs.List.{list_any}
use Rattle.std.specs.Cmp.Lexicographic.{pointwise, same_text}
use Rattle.std.proofs.lemmas.Bool.{and_parts, and_from, cases_Bool, or_cases, or_left}
use Rattle.std.proofs.lemmas.Cmp.{nat_list_eq_equiv}
use Rattle.std.proofs.lemmas.List.{same_lists, get_or_default}
use Rattle.std.proofs.lemmas.List.Folds.{list_any-append, list_any_at}
use Rattle.std.proofs.lemmas.List.Elements.{All-head, All-tail}
use Rattle.std.proofs.lemmas.Map.Views.{Contains-from_any}
use Rattle.ot_theory.specs.Rankings.{optimal, numbers_below, IsRanking, rankings}
use Rattle.ot_theory.specs.Problems.{Input, Problem}
use Rattle.ot_theory.specs.Languages.{choices, each_optimal, holds, keeps_givens, refuted, languages}
use Rattle.ot_theory.proofs.Enumeration.{any-map, any-ranking, ranking-found}
use Rattle.ot_theory.proofs.Optimal.{classes_in}
use Rattle.violation_profiles.specs.WellFormed.{IsWellFormed, IsWellFormedInput}
use Rattle.t_orders.specs.Laws.{HoldsOneLanguage}
use Rattle.t_orders.specs.Rows.{IsChoice}
use Rattle.t_orders.proofs.Optima.{any_below, below-found, optimal-once, optimal-within, optimum}

any-flat_map : {X Y : Type 0} (p : Y → Bool) (f : X → List Y) (xs : List X) → list_any p (flat_map f xs) ≡ list_any (λ x. list_any p (f x)) xs
any-flat_map p f [] = refl
any-flat_map p f (x ∷ xs) = list_any-append p (f x) (flat_map f xs) ∙ ap (λ (b : Bool). list_any p (f x) || b) (any-flat_map p f xs)

any-filtered : {X : Type 0} (p q : X → Bool) (xs : List X) → list_any p (filter q xs) ≡ list_any (λ x. q x && p x) xs
any-filtered p q [] = refl
any-filtered p q (x ∷ xs) = elim (cases_Bool (q x)) [
  | inl kept ↦ rw kept (ap (λ (b : Bool). p x || b) (any-filtered p q xs))
  | inr gone ↦ rw gone (any-filtered p q xs)
]

-- ---- the classes that a ranking makes optimal
-- what is optimal in each input of a choice is optimal in one
pub optimal-at : (order : List ℕ) (inputs : List Input) (choice : List ℕ) (i : ℕ) → each_optimal order inputs choice ≡ true → i < length choice → optimal order (classes_in inputs i) (slice_index choice i) ≡ true
optimal-at order inputs [] i h below = absurd (omega arith)
optimal-at order [] (a ∷ choice) i h below = let no : false ≡ true = h in absurd (cc)
optimal-at order (input ∷ inputs) (a ∷ choice) zero h below = (and_parts _ _ h).0
optimal-at order (input ∷ inputs) (a ∷ choice) (suc i) h below = optimal-at order inputs choice i (and_parts (optimal order input.classes a) _ h).1 (omega arith)

pub record OptimalChoice (order : List ℕ) (inputs : List Input) : Type 0 where
  pub choice : List ℕ
  pub full : length choice ≡ length inputs
  pub optimal : each_optimal order inputs choice ≡ true

optimal_choice : (n : ℕ) (order : List ℕ) (inputs : List Input) → IsRanking n order → All (IsWellFormedInput n) inputs → OptimalChoice order inputs
optimal_choice n order [] ranking well = record { choice = []; full = refl; optimal = refl }
optimal_choice n order (input ∷ inputs) ranking well =
    let w = All-head (IsWellFormedInput n) input inputs well in
    let o = optimum n order input.classes ranking w.classes (omega (arith, w.some)) in
    let r = optimal_choice n order inputs ranking (All-tail (IsWellFormedInput n) input inputs well) in
    record { choice = o.at ∷ r.choice; full = omega (arith, r.full); optimal = and_from _ _ o.optimal r.optimal }

-- ---- choices by a test
-- a choice of optimal classes that passes a test is met among all choices
any-choice : (order : List ℕ) (inputs : List Input) (choice : List ℕ) (p : List ℕ → Bool) → length choice ≡ length inputs → each_optimal order inputs choice ≡ true → p choice ≡ true → list_any p (choices inputs) ≡ true
unfolding choices
any-choice order [] [] p full h e = or_left (p []) false e
any-choice order [] (a ∷ choice) p full h e = absurd (omega arith)
any-choice order (input ∷ inputs) [] p full h e = absurd (omega arith)
any-choice order (input ∷ inputs) (a ∷ choice) p full h e =
    let parts = and_parts (optimal order input.classes a) (each_optimal order inputs choice) h in
    any-flat_map p (λ b. map (λ rest. b ∷ rest) (choices inputs)) (numbers_below (length input.classes))
    ∙ any_below (λ b. list_any p (map (λ rest. b ∷ rest) (choices inputs))) 0 (length input.classes) a (omega arith) (omega (arith, optimal-within order input.classes a parts.0))
    (any-map p (λ rest. a ∷ rest) (choices inputs) ∙ any-choice order inputs choice (λ rest. p (a ∷ rest)) (omega arith) parts.1 e)

record FoundChoice (inputs : List Input) (p : List ℕ → Bool) : Type 0 where
  choice : List ℕ
  full : length choice ≡ length inputs
  passes : p choice ≡ true

choice-found : (inputs : List Input) (p : List ℕ → Bool) → list_any p (choices inputs) ≡ true → FoundChoice inputs p
unfolding choices
choice-found [] p h = elim (or_cases (p []) false h) [
  | inl here ↦ record { choice = []; full = refl; passes = here }
  | inr none ↦ absurd (cc)
]
choice-found (input ∷ inputs) p h =
    let f = below-found (λ b. list_any p (map (λ rest. b ∷ rest) (choices inputs))) 0 (length input.classes) (sym (any-flat_map p (λ b. map (λ rest. b ∷ rest) (choices inputs)) (numbers_below (length input.classes))) ∙ h) in
    let r = choice-found inputs (λ rest. p (f.at ∷ rest)) (sym (any-map p (λ rest. f.at ∷ rest) (choices inputs)) ∙ f.passes) in
    record { choice = f.at ∷ r.choice; full = omega (arith, r.full); passes = r.passes }

-- ---- languages by a test
-- A full choice of classes that a ranking makes optimal is a language: where it passes a test, the test is met among the languages.
pub any-language : (problem : Problem) (order choice : List ℕ) (p : List ℕ → Bool) → IsRanking problem.constraints order → length choice ≡ length problem.inputs → holds problem order choice ≡ true → p choice ≡ true → list_any p (languages problem) ≡ true
unfolding languages refuted
any-language problem order choice p ranking full h e =
    let some : list_any (λ o. holds problem o choice) (rankings problem.constraints) ≡ true = any-ranking problem.constraints order (λ o. holds problem o choice) ranking h in
    any-filtered p (λ choice. not (refuted problem choice)) (choices problem.inputs)
    ∙ any-choice order problem.inputs choice (λ choice. not (refuted problem choice) && p choice) full (and_parts (keeps_givens problem order) _ h).1 (and_from _ _ (ap (λ b. not (not b)) some) e)

-- a language that passes a test, and a ranking under which it holds
pub record FoundLanguage (problem : Problem) (p : List ℕ → Bool) : Type 0 where
  pub choice : List ℕ
  pub full : length choice ≡ length problem.inputs
  pub passes : p choice ≡ true
  pub order : List ℕ
  pub ranking : IsRanking problem.constraints order
  pub agrees : holds problem order choice ≡ true

not_not : (b : Bool) → not (not b) ≡ true → b ≡ true
not_not true h = refl
not_not false h = h

pub language-found : (problem : Problem) (p : List ℕ → Bool) → list_any p (languages problem) ≡ true → FoundLanguage problem p
unfolding languages refuted
language-found problem p h =
    let f = choice-found problem.inputs (λ choice. not (refuted problem choice) && p choice) (sym (any-filtered p (λ choice. not (refuted problem choice)) (choices problem.inputs)) ∙ h) in
    let parts = and_parts (not (refuted problem f.choice)) (p f.choice) f.passes in
    let r = ranking-found problem.constraints (λ o. holds problem o f.choice) (not_not _ parts.0) in
    record { choice = f.choice; full = f.full; passes = parts.1; order = r.order; ranking = r.ranking; agrees = r.passes }

-- ---- one language for each ranking
pub language_of : (problem : Problem) (order : List ℕ) → IsWellFormed problem → IsRanking problem.constraints order → OptimalChoice order problem.inputs
language_of problem order well ranking = optimal_choice problem.constraints order problem.inputs ranking well.each

listed-language : (problem : Problem) (order choice : List ℕ) → IsRanking problem.constraints order → length choice ≡ length problem.inputs → holds problem order choice ≡ true → Contains (languages problem) choice
listed-language problem order choice ranking full h =
    Contains-from_any (λ xs ys e. same_text xs ys (sym e)) choice (languages problem) (any-language problem order choice (pointwise nat_eq choice) ranking full h (nat_list_eq_equiv.refl choice))

full-language : (problem : Problem) (choice : List ℕ) → Contains (languages problem) choice → length choice ≡ length problem.inputs
full-language problem choice (k, below, here) =
    let met = list_any_at (pointwise nat_eq choice) (languages problem) k choice below (ap (pointwise nat_eq choice) here ∙ nat_list_eq_equiv.refl choice) in
    let f = language-found problem (pointwise nat_eq choice) met in
    ap (λ (l : List ℕ). length l) (same_text choice f.choice (sym f.passes)) ∙ f.full

pub one_language : (problem : Problem) (order : List ℕ) → IsWellFormed problem → IsRanking problem.constraints order → keeps_givens problem order ≡ true → HoldsOneLanguage problem order
one_language problem order well ranking kept =
    let its = language_of problem order well ranking in
    record {
      language = its.choice;
      listed = listed-language problem order its.choice ranking its.full (and_from _ _ kept its.optimal);
      agrees = and_from _ _ kept its.optimal;
      only = λ other listed h.
          let full = full-language problem other listed in
          same_lists other its.choice (full ∙ sym its.full) (λ k d below.
          get_or_default other k d 0 below
          ∙ optimal-once order (classes_in problem.inputs k) (slice_index other k) (slice_index its.choice k) (optimal-at order problem.inputs other k (and_parts (keeps_givens problem order) _ h).1 below) (optimal-at order problem.inputs its.choice k its.optimal (omega (arith, its.full)))
          ∙ get_or_default its.choice k 0 d (omega (arith, its.full)));
    }

-- ---- each language is a choice of the problem
pub IsChoice-languages : (problem : Problem) → All (IsChoice problem) (languages problem)
IsChoice-languages problem k d below =
    let choice = slice_index_or (languages problem) k d in
    let met = list_any_at (pointwise nat_eq choice) (languages problem) k d below (nat_list_eq_equiv.refl choice) in
    let f = language-found problem (pointwise nat_eq choice) met in
    subst (IsChoice problem) (sym (same_text choice f.choice (sym f.passes))) (record {
      full = f.full;
      prefix = record {
        short = omega (arith, f.full);
        within = λ i b. optimal-within f.order (classes_in problem.inputs i) (slice_index f.choice i) (optimal-at f.order problem.inputs f.choice i (and_parts (keeps_givens problem f.order) _ f.agrees).1 b);
      };
    })
