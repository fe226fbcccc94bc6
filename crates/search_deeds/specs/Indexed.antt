-- The places of certificates by the last input of each and the winner that it gives it. A certificate that refutes a prefix,
-- but no shorter front of it, gives the last input of the prefix its last class. One of given pairs alone gives no input a winner.
use Rattle.std.specs.Prelude.{◌≡◌, ℕ, ◌+◌, ◌*◌, ◌<◌, ◌≤◌, Bool, true, ◌&&◌, ◌==◌, List, [], false, length, nat_le, slice_index, slice_index_or, All, Contains, Option, None, Some}
use Rattle.std.specs.List.{list_any, list_all}
use Rattle.ot_theory.specs.Problems.{Problem}
use Rattle.ot_theory.specs.Languages.{Term, Loser, Given, classes_at}
use Rattle.ot_theory.specs.Refutations.{refutes}

-- the term gives input i the winner a
abbrev pub gives : ℕ → ℕ → Term → Bool
gives i a (Loser j c b) = (j == i) && (c == a)
gives i a (Given k) = false

-- the term gives no input behind i a winner
abbrev pub is_up_to : ℕ → Term → Bool
is_up_to i (Loser j c b) = nat_le j i
is_up_to i (Given k) = true

-- the term gives no input a winner
abbrev pub is_given : Term → Bool
is_given (Loser j c b) = false
is_given (Given k) = true

-- The terms give input i the winner a, and no later input any.
abbrev pub is_last : List Term → ℕ → ℕ → Bool
is_last terms i a = list_any (gives i a) terms && list_all (is_up_to i) terms

-- given pairs alone
abbrev pub are_given : List Term → Bool
are_given terms = list_all is_given terms

abbrev pub IsAscending : List ℕ → Type 0
IsAscending places = (j k : ℕ) → j < k → k < length places → slice_index places j < slice_index places k

-- The places ascend, and those of all certificates that refute the prefix are among them.
pub record HoldsRefuting (certificates : List (List Term)) (prefix places : List ℕ) : Type 0 where
  pub ascending : IsAscending places
  pub within : All (λ place. place < length certificates) places
  pub complete : (m : ℕ) → m < length certificates → refutes (slice_index_or certificates m []) prefix ≡ true → Contains places m

-- There is a list of places for each input and each number below the widest, and one more.
pub record IsLaidOut (problem : Problem) (widest : ℕ) (places : List (List ℕ)) : Type 0 where
  pub wide : (i : ℕ) → i < length problem.inputs → length (classes_at problem i) ≤ widest
  pub long : length places ≡ length problem.inputs * widest + 1

-- For input i and class a, at i * widest + a, the places of the certificates that give input i the winner a and no later input any. The
-- last list has those of the certificates of given pairs alone.
pub record IsIndex (problem : Problem) (certificates : List (List Term)) (widest : ℕ) (places : List (List ℕ)) : Type 0 where
  pub laid_out : IsLaidOut problem widest places
  pub ascending : (b : ℕ) → IsAscending (slice_index_or places b [])
  pub within : (b : ℕ) → All (λ place. place < length certificates) (slice_index_or places b [])
  pub complete : (m i a : ℕ) → m < length certificates → is_last (slice_index_or certificates m []) i a ≡ true → a < widest → Contains (slice_index_or places (i * widest + a) []) m
  pub alone : (m : ℕ) → m < length certificates → are_given (slice_index_or certificates m []) ≡ true → Contains (slice_index_or places (length problem.inputs * widest) []) m

-- The list of places to which these terms belong.
pub record IsBucket (problem : Problem) (widest : ℕ) (terms : List Term) (bucket : ℕ) : Type 0 where
  pub choice : (i a : ℕ) → is_last terms i a ≡ true → i * widest + a ≡ bucket
  pub alone : are_given terms ≡ true → length problem.inputs * widest ≡ bucket

-- The input and the winner are those of the last choice that the terms ask for, if they ask for any.
abbrev pub IsLastOf : List Term → Option (ℕ × ℕ) → Type 0
IsLastOf terms None = are_given terms ≡ true
IsLastOf terms (Some (i, a)) = is_last terms i a ≡ true
