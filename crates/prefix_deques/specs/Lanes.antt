-- What contracts see of a lane and of a seat.
use Rattle.std.specs.Prelude.{◌≡◌, ℕ, ◌+◌, ◌<◌, ◌≤◌, List, [], ◌∷◌, ◌++◌, length, replicate, slice_index, slice_index_or, slice_set, min, ◌^◌, ◌-◌}
use Rattle.prefix_deques.specs.Books.{Classes, Entry, Each}

-- which deque it is
abbrev pub DequeId : Type 0
DequeId = ℕ × ℕ

-- of a deque, what a seat got out of it
pub record LaneView : Type 0 where
  pub deque : DequeId
  pub parts : ℕ
  pub gets : List Entry

-- gets, misses and idle have one place for each deque
pub record SeatView : Type 0 where
  pub number : ℕ
  pub make : List DequeId
  pub room : ℕ
  pub puts : List Classes
  pub gets : List (List Entry)
  pub back : List Classes
  pub misses : List ℕ
  pub idle : List ℕ

-- one more than before, or the greatest number of 64 bits
abbrev pub one_more : ℕ → ℕ
one_more n = min (n + 1) (2 ^ 64 - 1)

-- no deque gave nothing since
abbrev pub none_idle : List ℕ → List ℕ
none_idle idle = replicate (length idle) 0

-- what the seat got from the deque v, in order
abbrev pub gets_of : SeatView → ℕ → List Entry
gets_of s v = slice_index_or s.gets v []

-- the prefix stands behind the puts, and no deque counts as idle
abbrev pub Adds : SeatView → Classes → SeatView → Type 0
Adds old p new = new ≡ record old { puts = old.puts ++ p ∷ []; idle = none_idle old.idle }

-- the prefix came back, as q, and stands behind what was handed back; the seat has put as many as it has room for
abbrev pub HandsBack : SeatView → Classes → SeatView → Classes → Type 0
HandsBack old p new q = (q ≡ p) × (new ≡ record old { back = old.back ++ p ∷ [] }) × (old.room ≤ length old.puts)

-- one prefix more was got from the deque v, at a place past those got from it before
pub record GetsFrom (v : ℕ) (old : SeatView) (x : Classes) (new : SeatView) : Type 0 where
  pub place : ℕ
  pub rises : Each (λ e. e.0 < place) (gets_of old v)
  pub after : new ≡ record old { gets = slice_set old.gets v (gets_of old v ++ (place, x) ∷ []); idle = none_idle old.idle }

-- the deque v gave nothing
abbrev pub Misses : ℕ → SeatView → SeatView → Type 0
Misses v old new = new ≡ record old { misses = slice_set old.misses v (one_more (slice_index old.misses v)); idle = slice_set old.idle v (one_more (slice_index old.idle v)) }

-- gets, misses and idle have a place for each deque, and the seat's own deque is one of them
pub record HasPlaces (s : SeatView) : Type 0 where
  pub own : s.number < length s.make
  pub gets : length s.gets ≡ length s.make
  pub misses : length s.misses ≡ length s.make
  pub idle : length s.idle ≡ length s.make
  pub few : length s.make ≤ 64
