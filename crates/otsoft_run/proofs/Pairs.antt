-- A listing of covers has pairs of constraints.
use Rattle.std.proofs.Common.{ℕ, ◌+◌, ◌<◌, ◌≤◌, zero, suc, List, map, arith}
use Rattle.std.specs.Prelude.{All}
use Rattle.std.specs.List.{range_with_len}
use Rattle.std.proofs.lemmas.List.Elements.{All-cons, All-weaker, All-filter, All-map}
use Rattle.ot_theory.specs.declared.Mark.{Mark}
use Rattle.ot_theory.specs.Rankings.{numbers_below}
use Rattle.ot_theory.proofs.Classes.{All-flat_map}
use Rattle.hasse_listing.specs.Covers.{covers, is_cover, pair_of, pairs}
use Rattle.report_text.specs.Listings.{IsPair}

in_range : (a k n : ℕ) → a + k ≤ n → All (λ c. c < n) (range_with_len a k)
in_range a zero n within = λ k d h. absurd (omega (arith, h))
in_range a (suc k) n within =
    All-cons (λ (c : ℕ). c < n) a (range_with_len (a + 1) k) (omega (arith, within)) (in_range (a + 1) k n (omega (arith, within)))

numbers-below : (n : ℕ) → All (λ c. c < n) (numbers_below n)
numbers-below n = in_range 0 n n (omega arith)

pairs-of : (n c : ℕ) → c < n → All (IsPair n) (map (pair_of c) (numbers_below n))
pairs-of n c within =
    All-map (IsPair n) (pair_of c) (numbers_below n)
    (All-weaker (λ (d : ℕ). d < n) (λ (d : ℕ). IsPair n (pair_of c d)) (λ d h. (within, h)) (numbers_below n) (numbers-below n))

pairs-within : (n : ℕ) → All (IsPair n) (pairs n)
pairs-within n =
    All-flat_map (IsPair n) (λ (c : ℕ). map (pair_of c) (numbers_below n)) (numbers_below n)
    (All-weaker (λ (c : ℕ). c < n) (λ (c : ℕ). All (IsPair n) (map (pair_of c) (numbers_below n))) (λ c h. pairs-of n c h) (numbers_below n) (numbers-below n))

pub covers-within : (n : ℕ) (set : List (List Mark)) → All (IsPair n) (covers n set)
covers-within n set = All-filter (is_cover n set) (IsPair n) (pairs n) (pairs-within n)
