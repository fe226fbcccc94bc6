-- What contracts see of new seats.
use Rattle.std.specs.Prelude.{◌≡◌, ◌≢◌, ℕ, ◌+◌, ◌<◌, ◌≤◌, List, [], ◌∷◌, length, map, replicate, slice_get, slice_index_or, slice_set, Some, ◌++◌, zero, suc}
use Rattle.prefix_deques.specs.Books.{Rise}
use Rattle.prefix_deques.specs.Lanes.{DequeId, LaneView, SeatView}
use Rattle.prefix_deques.specs.Dealing.{OwnerView}

-- an owner of a fresh deque, and lanes that nothing came through, belong in one seat
pub record IsRow (owner : OwnerView) (number : ℕ) (lanes : List LaneView) : Type 0 where
  pub in_range : number < length lanes
  pub few : length lanes ≤ 64
  pub parts : owner.parts + length lanes ≡ 129
  pub puts : owner.puts ≡ []
  pub gets : owner.gets ≡ []
  pub tied : slice_get (map (λ (l : LaneView). l.deque) lanes) number ≡ Some owner.deque
  pub others : (v : ℕ) (l : LaneView) → slice_get lanes v ≡ Some l → v ≢ number → l.parts ≡ 1
  pub mine : (l : LaneView) → slice_get lanes number ≡ Some l → l.parts ≡ 0
  pub none : map (λ (l : LaneView). l.gets) lanes ≡ replicate (length lanes) []

-- the seat k of a make, with nothing put, got, missed or handed back
pub record IsNew (deques : List DequeId) (k : ℕ) (s : SeatView) : Type 0 where
  pub number : s.number ≡ k
  pub make : s.make ≡ deques
  pub room : 64 ≤ s.room
  pub puts : s.puts ≡ []
  pub gets : s.gets ≡ replicate (length deques) []
  pub back : s.back ≡ []
  pub misses : s.misses ≡ replicate (length deques) 0
  pub idle : s.idle ≡ replicate (length deques) 0

-- n new seats of one make, in the order of their numbers
pub record AreNew (n : ℕ) (seats : List SeatView) : Type 0 where
  pub make : List DequeId
  pub deques : length make ≡ n
  pub many : length seats ≡ n
  pub each : (k : ℕ) (s : SeatView) → slice_get seats k ≡ Some s → IsNew make k s

-- a seat that was taken apart: the owner and the lanes
pub record IsParted (s : SeatView) (owner : OwnerView) (lanes : List LaneView) : Type 0 where
  pub in_range : s.number < length lanes
  pub make : s.make ≡ map (λ (l : LaneView). l.deque) lanes
  pub puts : s.puts ≡ owner.puts
  pub gets : s.gets ≡ slice_set (map (λ (l : LaneView). l.gets) lanes) s.number owner.gets
  pub parts : owner.parts + length lanes ≡ 129
  pub tied : slice_get (map (λ (l : LaneView). l.deque) lanes) s.number ≡ Some owner.deque
  pub others : (v : ℕ) (l : LaneView) → slice_get lanes v ≡ Some l → v ≢ s.number → l.parts ≡ 1
  pub mine : (l : LaneView) → slice_get lanes s.number ≡ Some l → (l.parts ≡ 0) × (l.gets ≡ [])
  pub rise : Rise owner.gets
  pub rises : (v : ℕ) (l : LaneView) → slice_get lanes v ≡ Some l → Rise l.gets

-- a seat taken apart
pub record Desk : Type 0 where
  pub seat : SeatView
  pub owner : OwnerView
  pub lanes : List LaneView

abbrev pub AreDesks : List Desk → Type 0
AreDesks [] = Unit {0}
AreDesks (d ∷ ds) = IsParted d.seat d.owner d.lanes × AreDesks ds

-- seats that were taken apart: the owners, each with its seat's number, and the rows of lanes
pub record AreParted (ss : List SeatView) (os : List (ℕ × OwnerView)) (rs : List (List LaneView)) : Type 0 where
  pub desks : List Desk
  pub seats : ss ≡ map (λ (d : Desk). d.seat) desks
  pub owners : os ≡ map (λ (d : Desk). (d.seat.number, d.owner)) desks
  pub rows : rs ≡ map (λ (d : Desk). d.lanes) desks
  pub each : AreDesks desks

-- each of the rows has so many lanes
abbrev pub AreLong : ℕ → List (List LaneView) → Type 0
AreLong n [] = Unit {0}
AreLong n (r ∷ rs) = (length r ≡ n) × AreLong n rs

-- each of the rows has a lane
abbrev pub HaveLanes : List (List LaneView) → Type 0
HaveLanes [] = Unit {0}
HaveLanes (r ∷ rs) = (0 < length r) × HaveLanes rs

abbrev pub no_lane : LaneView
no_lane = record { deque = (0, 0); parts = 0; gets = [] }

-- the lane of each row to the deque v
abbrev pub column_of : ℕ → List (List LaneView) → List LaneView
column_of v = map (λ r. slice_index_or r v no_lane)

-- the columns of m deques, the first of which has the number v
abbrev pub columns_from : ℕ → ℕ → List (List LaneView) → List (List LaneView)
columns_from v zero rows = []
columns_from v (suc m) rows = column_of v rows ∷ columns_from (suc v) m rows

abbrev pub Cut : Type 0
Cut = List LaneView × LaneView

abbrev pub uncut : Cut → List LaneView
uncut c = c.0 ++ c.1 ∷ []

-- the last lanes of the rows, and the rows without them
pub record IsColumn (rows rest : List (List LaneView)) (ls : List LaneView) : Type 0 where
  pub cuts : List Cut
  pub before : rows ≡ map uncut cuts
  pub after : rest ≡ map (λ (c : Cut). c.0) cuts
  pub lanes : ls ≡ map (λ (c : Cut). c.1) cuts
