-- Counts and sums over the constraints so far, and one more.
use Rattle.std.proofs.Common.{◌≡◌, ℕ, ◌+◌, List, [], ◌∷◌, ◌++◌, Bool, true, false, cond, map, arith, refl, ap}
use Rattle.std.specs.Prelude.{sum, sum_by, filter, count_by}
use Rattle.std.proofs.lemmas.List.{map-id}
use Rattle.std.proofs.lemmas.List.FromFn.{filter_of_map_range_with_len_more, sum_by-map-range_with_len_more}
use Rattle.std.proofs.lemmas.List.Sums.{sum-map, sum_by-append, sum_by-cons}
use Rattle.ot_theory.specs.Rankings.{numbers_below}

pub count_more : (p : ℕ → Bool) (k : ℕ) → count_by p (numbers_below (k + 1)) ≡ count_by p (numbers_below k) + cond (p k) 1 0
count_more p k = simp map-id at (sum_by-map-range_with_len_more (λ (j : ℕ). cond (p j) 1 0) (λ (j : ℕ). j) 0 k k (omega arith))

sum_of_one : (f : ℕ → ℕ) (k : ℕ) (t : Bool) → sum_by f (cond t (k ∷ []) []) ≡ cond t (f k) 0
sum_of_one f k true = omega (arith, sum_by-cons f k [])
sum_of_one f k false = refl

pub sum_more : (p : ℕ → Bool) (f : ℕ → ℕ) (k : ℕ) → sum (map f (filter p (numbers_below (k + 1)))) ≡ sum (map f (filter p (numbers_below k))) + cond (p k) (f k) 0
sum_more p f k =
    let more : filter p (numbers_below (k + 1)) ≡ filter p (numbers_below k) ++ cond (p k) (k ∷ []) [] = simp map-id at (filter_of_map_range_with_len_more p (λ (j : ℕ). j) 0 k k (omega arith)) in
    let parts : sum_by f (filter p (numbers_below k) ++ cond (p k) (k ∷ []) []) ≡ sum_by f (filter p (numbers_below k)) + sum_by f (cond (p k) (k ∷ []) []) = sum_by-append f (filter p (numbers_below k)) (cond (p k) (k ∷ []) []) in
    let all : sum_by f (filter p (numbers_below (k + 1))) ≡ sum_by f (filter p (numbers_below k) ++ cond (p k) (k ∷ []) []) = ap (λ (l : List ℕ). sum_by f l) more in
    omega (arith, sum-map f (filter p (numbers_below (k + 1))), sum-map f (filter p (numbers_below k)), all, parts, sum_of_one f k (p k))
