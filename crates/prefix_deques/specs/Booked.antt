-- What contracts see of settled books.
use Rattle.std.specs.Prelude.{◌≡◌, ℕ, ◌+◌, ◌<◌, eqb, if◌then◌else◌, List, [], ◌∷◌, ◌++◌, length, drop}
use Rattle.std.specs.List.{All}
use Rattle.prefix_deques.specs.Books.{Classes, Entry, Agree, Rise}
use Rattle.prefix_deques.specs.Lanes.{SeatView, DequeId, gets_of}

pub record BooksView : Type 0 where
  pub seats : List SeatView
  pub left : List Classes

-- how many of the seats have the number k
abbrev pub seats_at : ℕ → List SeatView → ℕ
seats_at k [] = 0
seats_at k (s ∷ ss) = (if eqb k s.number then 1 else 0) + seats_at k ss

-- all seats of one make, in any order: each number below their count is that of exactly one
pub record IsMake (seats : List SeatView) : Type 0 where
  pub make : List DequeId
  pub same : All (λ s. s.make ≡ make) seats
  pub many : length make ≡ length seats
  pub once : (k : ℕ) → k < length seats → seats_at k seats ≡ 1

-- what all seats together got from the deque v
abbrev pub gets_from : ℕ → List SeatView → List Entry
gets_from v [] = []
gets_from v (s ∷ ss) = gets_of s v ++ gets_from v ss

-- The books of the own deque of the seat s agree: the places of all gets from it are those below their number, each once,
-- each prefix is the one put at its place, and the places that one seat got from it rise
pub record DequeAgrees (seats : List SeatView) (s : SeatView) : Type 0 where
  pub books : Agree s.puts (gets_from s.number seats)
  pub rise : All (λ t. Rise (gets_of t s.number)) seats

-- the puts of the seat s that nobody got
abbrev pub later : List SeatView → SeatView → List Classes
later seats s = drop (length (gets_from s.number seats)) s.puts

-- the same of several seats, those of the last seat first
abbrev pub all_later : List SeatView → List SeatView → List Classes
all_later seats [] = []
all_later seats (s ∷ ss) = all_later seats ss ++ later seats s
