-- Rankings, and which of two profiles is better under one.
-- A constraint is a number below n. A profile is a list of n violations.
use Rattle.std.specs.Prelude.{◌≡◌, ℕ, zero, suc, ◌<◌, Bool, false, not, ◌&&◌, ◌||◌, List, [], ◌∷◌, map, length, slice_index, slice_index_or, nat_lt, ◌==◌, ◌≤◌, count_by, find, flat_map}
use Rattle.std.specs.List.{list_all, position_or_len, range_with_len}
use Rattle.std.specs.Option.{option_map_or}

-- the numbers below n, ascending
abbrev pub numbers_below : ℕ → List ℕ
numbers_below n = range_with_len 0 n

-- how often a number stands in a list
abbrev pub count_of : ℕ → List ℕ → ℕ
count_of c list = count_by (λ x. x == c) list

-- A ranking of n constraints is a list of all of them, each once, and of nothing else, the highest first.
pub record IsRanking (n : ℕ) (order : List ℕ) : Type 0 where
  pub each : (c : ℕ) → c < n → count_of c order ≡ 1
  pub none_else : (c : ℕ) → n ≤ c → count_of c order ≡ 0

-- the lists that one gets by putting x somewhere into the list
unfoldable pub put_somewhere : ℕ → List ℕ → List (List ℕ)
put_somewhere x [] = (x ∷ []) ∷ []
put_somewhere x (y ∷ ys) = (x ∷ y ∷ ys) ∷ map (λ zs. y ∷ zs) (put_somewhere x ys)

-- all rankings of n constraints: the last constraint, n - 1, stands somewhere in a ranking of the others
unfoldable pub rankings : ℕ → List (List ℕ)
rankings zero = [] ∷ []
rankings (suc n) = flat_map (put_somewhere n) (rankings n)

-- The one constraint stands before the other one in a ranking.
abbrev pub stands_before : List ℕ → ℕ → ℕ → Bool
stands_before order c d = nat_lt (position_or_len (λ x. x == c) order) (position_or_len (λ x. x == d) order)

-- One profile is better than another where it has fewer violations at the first constraint on which they differ.
abbrev pub better : List ℕ → List ℕ → List ℕ → Bool
better order a b =
    option_map_or (λ c. nat_lt (slice_index a c) (slice_index b c)) (find (λ c. not (slice_index a c == slice_index b c)) order) false

-- A class, by its number, is optimal among the classes of an input where it is one of them and better than each other.
abbrev pub optimal : List ℕ → List (List ℕ) → ℕ → Bool
optimal order classes a =
    nat_lt a (length classes)
    && list_all (λ b. (b == a) || better order (slice_index_or classes a []) (slice_index_or classes b [])) (numbers_below (length classes))
