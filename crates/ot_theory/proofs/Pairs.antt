-- The condition that one constraint stands above another one, and the rankings that keep it.
use Rattle.std.proofs.Common.{◌≡◌, ◌≢◌, ℕ, zero, suc, ◌+◌, ◌<◌, List, [], ◌∷◌, Bool, true, false, ◌==◌, arith, refl, sym, ◌∙◌, ap, cond, inl, inr, length, Option, Some}
use Rattle.std.specs.Prelude.{All, nat_lt, slice_get}
use Rattle.std.specs.List.{list_all, position_or_len, range_with_len}
use Rattle.std.specs.Option.{option_map_or}
use Rattle.std.proofs.lemmas.Bool.{ne_eqb, cases_lt, lt-ltb, ltb-true, false_from_ne_true}
use Rattle.std.proofs.lemmas.Bool.Decides.{eqb_tells, nat_tests}
use Rattle.std.proofs.lemmas.List.{get_or_past}
use Rattle.std.proofs.lemmas.List.Elements.{All-head, All-tail}
use Rattle.std.proofs.lemmas.List.Folds.{list_all-map}
use Rattle.std.proofs.lemmas.List.FromFn.{length-map-range_with_len, get_or-map-range_with_len}
use Rattle.ot_theory.specs.declared.Mark.TheVariants.{W, L, E}
use Rattle.ot_theory.specs.Rankings.{count_of, numbers_below, stands_before, IsRanking}
use Rattle.ot_theory.specs.Conditions.{is_win, keeps, mark_at, over}
use Rattle.ot_theory.specs.Problems.{Pair, Problem, IsPair, givens}
use Rattle.ot_theory.specs.Languages.{Given, condition_of, keeps_givens, terms_of_givens}
use Rattle.ot_theory.proofs.Enumeration.{count_past}

pub length-over : (n c d : ℕ) → length (over n c d) ≡ n
length-over n c d = length-map-range_with_len (λ (k : ℕ). cond (k == c) W (cond (k == d) L E)) 0 n

pub mark_at-over : (n c d k : ℕ) → k < n → mark_at (over n c d) k ≡ cond (k == c) W (cond (k == d) L E)
mark_at-over n c d k below = get_or-map-range_with_len (λ (j : ℕ). cond (j == c) W (cond (j == d) L E)) 0 n k k E below (omega arith)

-- the mark of any number, where both constraints are among the n
pub mark_at-over_within : (n c d k : ℕ) → c < n → d < n → mark_at (over n c d) k ≡ cond (k == c) W (cond (k == d) L E)
mark_at-over_within n c d k upper lower = elim (cases_lt k n) [
  | inl below ↦ mark_at-over n c d k below
  | inr past ↦
      let no_c : k ≢ c = omega arith in
      let no_d : k ≢ d = omega arith in
      get_or_past (over n c d) k E (omega (arith, past, length-over n c d)) ∙ sym (rw (ne_eqb k c no_c, ne_eqb k d no_d) refl)
]

-- A ranking keeps the condition exactly where the upper constraint stands before the lower one.
keeps-over : (n c d : ℕ) (order : List ℕ) → c < n → d < n → c ≢ d → 0 < count_of c order → keeps order (over n c d) ≡ stands_before order c d
keeps-over n c d [] upper lower differ some = absurd (omega arith)
keeps-over n c d (x ∷ order) upper lower differ some = elim (eqb_tells x c) [
  | inl here ↦
      let other : x ≢ d = λ e. differ (sym here.1 ∙ e) in
      let mark : mark_at (over n c d) x ≡ W = mark_at-over_within n c d x upper lower ∙ rw here.0 refl in
      let kept : keeps (x ∷ order) (over n c d) ≡ true = rw mark (ap is_win mark) in
      let before : stands_before (x ∷ order) c d ≡ true = rw (here.0, ne_eqb x d other) (lt-ltb 0 (1 + position_or_len (λ y. y == d) order) (omega arith)) in
      kept ∙ sym before
  | inr above ↦ elim (eqb_tells x d) [
    | inl there ↦
        let mark : mark_at (over n c d) x ≡ L = mark_at-over_within n c d x upper lower ∙ rw (above.0, there.0) refl in
        let lost : keeps (x ∷ order) (over n c d) ≡ false = rw mark (ap is_win mark) in
        let behind : stands_before (x ∷ order) c d ≡ false = rw (above.0, there.0) (false_from_ne_true _ (λ e. absurd (omega (arith, ltb-true (1 + position_or_len (λ y. y == c) order) 0 e)))) in
        lost ∙ sym behind
    | inr neither ↦
        let mark : mark_at (over n c d) x ≡ E = mark_at-over_within n c d x upper lower ∙ rw (above.0, neither.0) refl in
        let kept : keeps (x ∷ order) (over n c d) ≡ keeps order (over n c d) = rw mark refl in
        let rest = keeps-over n c d order upper lower differ (omega (arith, count_past c x order above.1, some)) in
        let same : stands_before order c d ≡ stands_before (x ∷ order) c d = rw (above.0, neither.0) (less (position_or_len (λ y. y == c) order) (position_or_len (λ y. y == d) order)) in
        kept ∙ rest ∙ same
  ]
]
  where
    less : (a b : ℕ) → nat_lt a b ≡ nat_lt (1 + a) (1 + b)
    less a b = by (nat_lt a b) (nat_lt (1 + a) (1 + b)) refl refl
      where
        by : (p q : Bool) → nat_lt a b ≡ p → nat_lt (1 + a) (1 + b) ≡ q → p ≡ q
        by true true e f = refl
        by true false e f = grind (arith, nat_tests)
        by false true e f = grind (arith, nat_tests)
        by false false e f = refl

pub pair-kept : (n : ℕ) (order : List ℕ) (pair : Pair) → IsRanking n order → IsPair n pair → keeps order (over n pair.above pair.below) ≡ stands_before order pair.above pair.below
pair-kept n order pair ranking p = keeps-over n pair.above pair.below order p.above p.below p.differ (omega (arith, ranking.each pair.above p.above))

-- a test of the numbers of a list that agrees with one of its members
by_number : {X : Type 0} (q : ℕ → Bool) (p : X → Bool) (xs : List X) (s : ℕ) → ((k : ℕ) (x : X) → slice_get xs k ≡ Some x → q (s + k) ≡ p x) → list_all q (range_with_len s (length xs)) ≡ list_all p xs
by_number q p [] s h = refl
by_number q p (x ∷ xs) s h =
    let here : s + 0 ≡ s = omega arith in
    let first : q s ≡ p x = rw here at (h 0 x refl) in
    let rest = by_number q p xs (s + 1) (λ k y e. let next : s + suc k ≡ s + 1 + k = omega arith in rw next at (h (suc k) y e)) in
    rw (first, rest) refl

pair_at : (n : ℕ) (pairs : List Pair) (k : ℕ) (pair : Pair) → All (IsPair n) pairs → slice_get pairs k ≡ Some pair → IsPair n pair
pair_at n [] k pair h e = absurd (cc)
pair_at n (x ∷ pairs) zero pair h e = let same : x ≡ pair = cc in rw same at (All-head (IsPair n) x pairs h)
pair_at n (x ∷ pairs) (suc k) pair h e = pair_at n pairs k pair (All-tail (IsPair n) x pairs h) e

-- A ranking keeps the given pairs exactly where it keeps the conditions of their terms.
pub givens-kept : (problem : Problem) (order : List ℕ) → IsRanking problem.constraints order → All (IsPair problem.constraints) (givens problem)
    → list_all (λ term. keeps order (condition_of problem term)) (terms_of_givens problem) ≡ keeps_givens problem order
givens-kept problem order ranking h =
    list_all-map (λ term. keeps order (condition_of problem term)) Given (numbers_below (length (givens problem)))
    ∙ by_number (λ k. keeps order (condition_of problem (Given k))) (λ pair. stands_before order pair.above pair.below) (givens problem) 0 (λ k pair e.
    let here : 0 + k ≡ k = omega arith in
    rw here (ap (λ (o : Option Pair). keeps order (option_map_or (λ (p : Pair). over problem.constraints p.above p.below) o [])) e ∙ pair-kept problem.constraints order pair ranking (pair_at problem.constraints (givens problem) k pair h e)))
