-- What can be read off the languages: which outputs are possible, and which imply which.
use Rattle.std.proofs.Common.{◌≡◌, ℕ, ◌<◌, List, [], ◌∷◌, Bool, true, false, not, ◌||◌, ◌&&◌, arith, refl, sym, ◌∙◌, ap, length, slice_index}
use Rattle.std.specs.List.{list_any, list_all}
use Rattle.std.proofs.lemmas.Bool.{and_from, and_parts, eq-eqb, eqb-true}
use Rattle.ot_theory.specs.Rankings.{optimal, rankings}
use Rattle.ot_theory.specs.Problems.{Problem}
use Rattle.ot_theory.specs.Languages.{each_optimal, holds, keeps_givens, languages, classes_at}
use Rattle.ot_theory.proofs.Enumeration.{any-ranking, ranking-found}
use Rattle.ot_theory.proofs.Sets.{both_ways}
use Rattle.violation_profiles.specs.WellFormed.{IsWellFormed}
use Rattle.t_orders.specs.Implications.{Output, has, wins, is_possible, implies}
use Rattle.t_orders.proofs.Optima.{optimal-once}
use Rattle.t_orders.proofs.OneLanguage.{any-language, language-found, language_of, optimal-at}

-- Under a ranking under which a choice holds, what wins is what the choice has.
wins-has : (problem : Problem) (order choice : List ℕ) (output : Output) → length choice ≡ length problem.inputs → holds problem order choice ≡ true → output.input < length problem.inputs → wins problem order output ≡ has output choice
wins-has problem order choice output full h below =
    let parts = and_parts (keeps_givens problem order) (each_optimal order problem.inputs choice) h in
    let here : optimal order (classes_at problem output.input) (slice_index choice output.input) ≡ true = optimal-at order problem.inputs choice output.input parts.1 (omega arith) in
    both_ways _ _
    (λ wins. eq-eqb (slice_index choice output.input) output.class (optimal-once order (classes_at problem output.input) (slice_index choice output.input) output.class here (and_parts (keeps_givens problem order) _ wins).1))
    (λ has. and_from _ _ parts.0 (sym (ap (optimal order (classes_at problem output.input)) (eqb-true (slice_index choice output.input) output.class has)) ∙ here))

-- Some ranking makes an output optimal exactly where a language has it.
pub possible_by_languages : (problem : Problem) (output : Output) → IsWellFormed problem → output.input < length problem.inputs → is_possible problem output ≡ list_any (has output) (languages problem)
unfolding is_possible
possible_by_languages problem output well below = both_ways _ _ into out
  where
    into : list_any (λ order. wins problem order output) (rankings problem.constraints) ≡ true → list_any (has output) (languages problem) ≡ true
    into h =
        let f = ranking-found problem.constraints (λ order. wins problem order output) h in
        let its = language_of problem f.order well f.ranking in
        let held : holds problem f.order its.choice ≡ true = and_from _ _ (and_parts (keeps_givens problem f.order) _ f.passes).0 its.optimal in
        any-language problem f.order its.choice (has output) f.ranking its.full held (sym (wins-has problem f.order its.choice output its.full held below) ∙ f.passes)

    out : list_any (has output) (languages problem) ≡ true → list_any (λ order. wins problem order output) (rankings problem.constraints) ≡ true
    out h =
        let f = language-found problem (has output) h in
        any-ranking problem.constraints f.order (λ order. wins problem order output) f.ranking (wins-has problem f.order f.choice output f.full f.agrees below ∙ f.passes)

-- all pass a test exactly where none fails it
all-none : {X : Type 0} (p q : X → Bool) → ((x : X) → p x ≡ not (q x)) → (xs : List X) → list_all p xs ≡ not (list_any q xs)
all-none p q e [] = refl
all-none p q e (x ∷ xs) = rw (e x, all-none p q e xs) (by (q x) (list_any q xs))
  where
    by : (b d : Bool) → (not b && not d) ≡ not (b || d)
    by true d = refl
    by false d = refl

fails : (b d : Bool) → (not b || d) ≡ not (b && not d)
fails true true = refl
fails true false = refl
fails false d = refl

-- One output implies another exactly where every language that has the one has the other.
pub implied_by_languages : (problem : Problem) (from to : Output) → IsWellFormed problem → from.input < length problem.inputs → to.input < length problem.inputs
    → implies problem from to ≡ list_all (λ choice. not (has from choice) || has to choice) (languages problem)
unfolding implies
implied_by_languages problem from to well below_from below_to =
    all-none _ parts_order (λ order. fails (wins problem order from) (wins problem order to)) (rankings problem.constraints)
    ∙ ap not (both_ways _ _ into out)
    ∙ sym (all-none _ parts_choice (λ choice. fails (has from choice) (has to choice)) (languages problem))
  where
    parts_order : List ℕ → Bool
    parts_order order = wins problem order from && not (wins problem order to)

    parts_choice : List ℕ → Bool
    parts_choice choice = has from choice && not (has to choice)

    same : (order choice : List ℕ) → length choice ≡ length problem.inputs → holds problem order choice ≡ true → parts_order order ≡ parts_choice choice
    same order choice full h = rw (wins-has problem order choice from full h below_from, wins-has problem order choice to full h below_to) refl

    into : list_any parts_order (rankings problem.constraints) ≡ true → list_any parts_choice (languages problem) ≡ true
    into h =
        let f = ranking-found problem.constraints parts_order h in
        let its = language_of problem f.order well f.ranking in
        let first = (and_parts (wins problem f.order from) (not (wins problem f.order to)) f.passes).0 in
        let held : holds problem f.order its.choice ≡ true = and_from _ _ (and_parts (keeps_givens problem f.order) _ first).0 its.optimal in
        any-language problem f.order its.choice parts_choice f.ranking its.full held (sym (same f.order its.choice its.full held) ∙ f.passes)

    out : list_any parts_choice (languages problem) ≡ true → list_any parts_order (rankings problem.constraints) ≡ true
    out h =
        let f = language-found problem parts_choice h in
        any-ranking problem.constraints f.order parts_order f.ranking (same f.order f.choice f.full f.agrees ∙ f.passes)
