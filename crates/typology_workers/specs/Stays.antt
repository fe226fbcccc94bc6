-- What a call that is lent a seat and a front leaves of them, whatever it answers.
use Rattle.std.specs.Prelude.{◌≡◌, ℕ, ◌<◌, ◌≤◌, length}
use Rattle.prefix_deques.specs.Lanes.{SeatView, gets_of}
use Rattle.refutation.specs.Asked.{Begins}
use Rattle.refutation_store.specs.Fronts.{FrontView}

-- The seat is of the same make and has the same number and room. Its lists of puts, of gets from each deque and of what was handed
-- back begin with those from before.
pub record KeepsSeat (old new : SeatView) : Type 0 where
  pub number : new.number ≡ old.number
  pub make : new.make ≡ old.make
  pub room : new.room ≡ old.room
  pub puts : Begins old.puts new.puts
  pub gets : (v : ℕ) → Begins (gets_of old v) (gets_of new v)
  pub back : Begins old.back new.back

-- The front is of the same store, its values begin with those from before, and its misses have not fallen. If it has learnt values,
-- it has no more than there are places.
pub record KeepsFront (places : ℕ) (old new : FrontView) : Type 0 where
  pub store : new.store ≡ old.store
  pub values : Begins old.values new.values
  pub misses : old.misses ≤ new.misses
  pub within : length old.values < length new.values → length new.values ≤ places
