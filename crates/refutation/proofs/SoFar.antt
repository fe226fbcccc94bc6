-- The winners so far, with one term more.
use Rattle.std.proofs.Common.{◌≡◌, ◌≢◌, ℕ, ◌<◌, ◌≤◌, List, [], ◌∷◌, ◌++◌, Bool, true, false, ◌==◌, arith, refl, sym, ◌∙◌, ap, inl, inr, length, Option, Some, None, option_map, eq-eqb, ◌+◌, ◌&&◌, map, take, drop, get_or}
use Rattle.std.specs.Prelude.{All, not, nat_lt}
use Rattle.std.specs.Option.{option_map_or}
use Rattle.std.proofs.lemmas.Bool.{and_parts, ltb-true, false_from_ne_true}
use Rattle.std.proofs.lemmas.Bool.Decides.{eqb_tells}
use Rattle.std.proofs.lemmas.List.Folds.{list_all-map}
use Rattle.std.proofs.lemmas.List.Sums.{AllPass-from_list_all}
use Rattle.std.proofs.lemmas.List.{map-append, map_more, take-append-drop}
use Rattle.ot_base.specs.declared.tableau.ClassId.{ClassId}
use Rattle.ot_theory.specs.Languages as theory
use Rattle.ot_theory.specs.Languages.{Loser, Given, classes_at}
use Rattle.ot_theory.specs.Problems.{Problem}
use Rattle.ot_theory.specs.Refutations.{is_contradiction, is_term, one_winner_each, winner_in}
use Rattle.ot_theory.proofs.WinnerTerms.{has_winner_of, one_winner_each-front, one_winner_each-push, winner_in-push}
use Rattle.ot_theory.specs.declared.Mark.{Mark}
use Rattle.ot_theory.specs.Conditions.{fusion, is_contradictory}
use Rattle.ot_theory.proofs.Certificates.{contradiction-tried, none-contradictory}
use Rattle.ot_theory.specs.Languages.{condition_of}
use Rattle.ot_theory.proofs.Fusing.{fusion-push}
use Rattle.refutation.specs.declared.term.Term.{Term}
use Rattle.refutation.specs.Terms.{are_terms, term_of, terms_in}
use Rattle.refutation.specs.Winners.{class_at, AreWinners, IsBelow}

map_or-map : (w : ℕ) (o : Option ClassId) (d : Bool) → option_map_or (λ a. a == w) (option_map (λ a. a.0) o) d ≡ option_map_or (λ a. a.0 == w) o d
map_or-map w None d = refl
map_or-map w (Some a) d = refl

-- whether a class is the winner of its input so far
agrees-so-far : (terms : List theory.Term) (i a b : ℕ) (winners : List (Option ClassId)) → AreWinners terms winners → i < length winners → option_map_or (λ w. w.0 == a) (class_at winners i) true ≡ has_winner_of terms (Loser i a b)
agrees-so-far terms i a b winners h below =
    sym (map_or-map a (class_at winners i) true) ∙ ap (λ (o : Option ℕ). option_map_or (λ w. w == a) o true) (h i below)

-- With a class that is the winner of its input so far each input has one winner, and with another one the input has two.
pub agrees-one : (terms : List theory.Term) (i : ℕ) (a : ClassId) (b : ℕ) (winners : List (Option ClassId)) (answer : Bool) → AreWinners terms winners → one_winner_each terms ≡ true → i < length winners
    → answer ≡ option_map_or (λ w. w.0 == a.0) (class_at winners i) true → answer ≡ one_winner_each (terms ++ Loser i a.0 b ∷ [])
agrees-one terms i a b winners answer h one below e =
    sym (one_winner_each-push terms (Loser i a.0 b) ∙ rw one (sym (agrees-so-far terms i a.0 b winners h below) ∙ sym e))

pub given-one : (terms : List theory.Term) (k : ℕ) → one_winner_each terms ≡ true → true ≡ one_winner_each (terms ++ Given k ∷ [])
given-one terms k one = sym (one_winner_each-push terms (Given k) ∙ rw one refl)

-- the winners with one term more
pub AreWinners-push : (terms : List theory.Term) (at : ℕ) (a : ClassId) (b : ℕ) (old new : List (Option ClassId)) → AreWinners terms old → length new ≡ length old
    → class_at new at ≡ Some (option_map_or (λ w. w) (class_at old at) a) → ((i : ℕ) → i ≢ at → class_at new i ≡ class_at old i) → AreWinners (terms ++ Loser at a.0 b ∷ []) new
AreWinners-push terms at a b old new h same chosen others i below = elim (eqb_tells at i) [
  | inl here ↦ rw (← here.1, chosen, winner_in-push terms (Loser at a.0 b) at, ← h at (omega (arith, here.1)), eq-eqb at at refl) (by (class_at old at))
  | inr there ↦ rw (others i (omega (arith, there.1)), winner_in-push terms (Loser at a.0 b) i, there.0, h i (omega arith)) (kept (winner_in terms i))
]
  where
    by : (o : Option ClassId) → option_map (λ w. w.0) (Some (option_map_or (λ w. w) o a)) ≡ option_map_or (λ w. Some w) (option_map (λ w. w.0) o) (Some a.0)
    by None = refl
    by (Some w) = refl

    kept : (o : Option ℕ) → o ≡ option_map_or (λ w. Some w) o None
    kept None = refl
    kept (Some w) = refl

pub AreWinners-given : (terms : List theory.Term) (k : ℕ) (winners : List (Option ClassId)) → AreWinners terms winners → AreWinners (terms ++ Given k ∷ []) winners
AreWinners-given terms k winners h i below = h i below ∙ sym (winner_in-push terms (Given k) i ∙ kept (winner_in terms i))
  where
    kept : (o : Option ℕ) → option_map_or (λ w. Some w) o None ≡ o
    kept None = refl
    kept (Some w) = refl

-- the terms of a front, with one more
front-more : (terms : List Term) (k : ℕ) (d : Term) → k < length terms → terms_in (take (k + 1) terms) ≡ terms_in (take k terms) ++ term_of (get_or terms k d) ∷ []
front-more terms k d below = map_more term_of terms k d below

-- a term of a problem is of one of its inputs, or a given pair
pub input-within : (problem : Problem) (terms : List Term) (k n : ℕ) (d : Term) → are_terms problem terms ≡ true → length problem.inputs ≤ n → k < length terms → IsBelow n (term_of (get_or terms k d))
input-within problem terms k n d h places below = by (term_of (get_or terms k d)) (AllPass-from_list_all (λ term. is_term problem (term_of term)) terms h k d below)
  where
    by : (t : theory.Term) → is_term problem t ≡ true → IsBelow n t
    by (Loser i a b) it =
        let first : Bool = nat_lt i (length problem.inputs) in
        let second : Bool = nat_lt a (length (classes_at problem i)) in
        let third : Bool = nat_lt b (length (classes_at problem i)) in
        let p = and_parts (first && second && third) (not (b == a)) it in
        let q = and_parts (first && second) third p.0 in
        omega (arith, places, ltb-true i (length problem.inputs) (and_parts first second q.0).0)
    by (Given j) it = tt

-- A term that does not have the winner of its input so far gives it two.
pub two-winners : (terms : List Term) (k : ℕ) (d : Term) (b : Bool) → k < length terms → b ≡ one_winner_each (terms_in (take k terms) ++ term_of (get_or terms k d) ∷ []) → b ≡ false → false ≡ one_winner_each (terms_in terms)
two-winners terms k d b below e other = sym (false_from_ne_true _ (λ all.
    let whole : terms_in terms ≡ terms_in (take (k + 1) terms) ++ terms_in (drop (k + 1) terms) = ap terms_in (sym (take-append-drop (k + 1) terms)) ∙ map-append term_of (take (k + 1) terms) (drop (k + 1) terms) in
    let front = one_winner_each-front (terms_in (take (k + 1) terms)) (terms_in (drop (k + 1) terms)) (rw whole at all) in
    let no : true ≡ false = sym front ∙ ap one_winner_each (front-more terms k d below) ∙ sym e ∙ other in
    cc))

-- One that has it leaves each input one winner.
pub one-winner : (terms : List Term) (k : ℕ) (d : Term) (b : Bool) → k < length terms → b ≡ one_winner_each (terms_in (take k terms) ++ term_of (get_or terms k d) ∷ []) → b ≡ true → one_winner_each (terms_in (take (k + 1) terms)) ≡ true
one-winner terms k d b below e same = ap one_winner_each (front-more terms k d below) ∙ sym e ∙ same

-- the winners with the k-th term
pub more-winners : (terms : List Term) (k : ℕ) (d : Term) (winners : List (Option ClassId)) → k < length terms → AreWinners (terms_in (take k terms) ++ term_of (get_or terms k d) ∷ []) winners → AreWinners (terms_in (take (k + 1) terms)) winners
more-winners terms k d winners below h = rw (front-more terms k d below) h

-- there are none before the first term
pub no-winners : (winners : List (Option ClassId)) → All (λ winner. winner ≡ None) winners → AreWinners [] winners
no-winners winners none i below = rw (none i None below) refl

-- the fusion of some conditions, with one term more
pub fused-more : (problem : Problem) (first : theory.Term) (rest : List Term) (k : ℕ) (d : Term) (fused marks new : List Mark) → k < length rest
    → fused ≡ fusion problem.constraints (map (condition_of problem) (first ∷ terms_in (take k rest))) → marks ≡ condition_of problem (term_of (get_or rest k d)) → new ≡ fusion problem.constraints (fused ∷ marks ∷ [])
    → new ≡ fusion problem.constraints (map (condition_of problem) (first ∷ terms_in (take (k + 1) rest)))
fused-more problem first rest k d fused marks new below so_far here e =
    let set = map (condition_of problem) (first ∷ terms_in (take k rest)) in
    let last = condition_of problem (term_of (get_or rest k d)) in
    let whole : map (condition_of problem) (first ∷ terms_in (take (k + 1) rest)) ≡ set ++ last ∷ [] =
    rw (map_more term_of rest k d below) (ap (λ (l : List (List Mark)). condition_of problem first ∷ l) (map-append (condition_of problem) (terms_in (take k rest)) (term_of (get_or rest k d) ∷ []))) in
    e ∙ rw (so_far, here) (fusion-push problem.constraints set last) ∙ ap (fusion problem.constraints) (sym whole)

pub none-fuse-to-loss : (problem : Problem) (terms : List Term) → length terms ≡ 0 → false ≡ is_contradictory (fusion problem.constraints (map (condition_of problem) (terms_in terms)))
none-fuse-to-loss problem [] e = sym (false_from_ne_true _ (none-contradictory problem.constraints))
none-fuse-to-loss problem (t ∷ terms) e = absurd (omega arith)

-- whether the terms are those of a contradiction, test by test
tried : (problem : Problem) (terms : List Term) → is_contradiction problem (terms_in terms)
    ≡ (are_terms problem terms && (one_winner_each (terms_in terms) && is_contradictory (fusion problem.constraints (map (condition_of problem) (terms_in terms)))))
tried problem terms = rw (contradiction-tried problem (terms_in terms), list_all-map (is_term problem) term_of terms) refl

pub genuine-fused : (problem : Problem) (terms : List Term) → are_terms problem terms ≡ true → one_winner_each (terms_in terms) ≡ true
    → is_contradictory (fusion problem.constraints (map (condition_of problem) (terms_in terms))) ≡ is_contradiction problem (terms_in terms)
genuine-fused problem terms a o = sym (rw (a, o) at (tried problem terms))

pub not-terms : (problem : Problem) (terms : List Term) → are_terms problem terms ≡ false → false ≡ is_contradiction problem (terms_in terms)
not-terms problem terms a = sym (rw a at (tried problem terms))

pub not-one-winner : (problem : Problem) (terms : List Term) → are_terms problem terms ≡ true → one_winner_each (terms_in terms) ≡ false → false ≡ is_contradiction problem (terms_in terms)
not-one-winner problem terms a o = sym (rw (a, o) at (tried problem terms))

-- the conditions with one term more
pub conditions-more : (problem : Problem) (terms : List Term) (i : ℕ) (d : Term) → i < length terms
    → map (condition_of problem) (terms_in (take (i + 1) terms)) ≡ map (condition_of problem) (terms_in (take i terms)) ++ condition_of problem (term_of (get_or terms i d)) ∷ []
conditions-more problem terms i d within =
    ap (map (condition_of problem)) (map_more term_of terms i d within) ∙ map-append (condition_of problem) (terms_in (take i terms)) (term_of (get_or terms i d) ∷ [])
