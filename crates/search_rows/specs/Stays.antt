-- What no call changes of a seat, and the two seats of a make of two.
use Rattle.std.specs.Prelude.{◌≡◌, length}
use Rattle.prefix_deques.specs.Lanes.{SeatView}

-- the seat's number and its make are the same
abbrev pub IsSame : SeatView → SeatView → Type 0
IsSame s t = (t.number ≡ s.number) × (t.make ≡ s.make)

-- the two seats of one make
pub record ArePair (s t : SeatView) : Type 0 where
  pub first : s.number ≡ 0
  pub second : t.number ≡ 1
  pub one_make : s.make ≡ t.make
  pub deques : length t.make ≡ 2
