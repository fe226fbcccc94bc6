-- What the steps of a turn do to a seat.
use Rattle.std.specs.Prelude.{◌≡◌, ℕ, ◌+◌, ◌<◌, ◌≤◌, ◌^◌, List, [], ◌∷◌, ◌++◌, length, sum, slice_index}
use Rattle.search_deeds.specs.Deeds.{times}
use Rattle.prefix_deques.specs.Lanes.{SeatView, HasPlaces}
use Rattle.typology_workers.specs.Settled.{got}

-- The deques from one number to another gave nothing, and perhaps others. Counts below 2^63 have not fallen, and those of these deques have risen where they were below 2^62.
pub record HasMissed (from to : ℕ) (old new : SeatView) : Type 0 where
  pub places : HasPlaces new
  pub number : new.number ≡ old.number
  pub make : new.make ≡ old.make
  pub room : new.room ≡ old.room
  pub puts : new.puts ≡ old.puts
  pub back : new.back ≡ old.back
  pub gets : new.gets ≡ old.gets
  pub misses : (n : ℕ) → n < 2 ^ 63 → n ≤ sum old.misses → n ≤ sum new.misses
  pub missed : from < to → (n : ℕ) → n < 2 ^ 62 → n ≤ sum old.misses → n + 1 ≤ sum new.misses
  pub idle : (v n : ℕ) → n < 2 ^ 63 → n ≤ slice_index old.idle v → n ≤ slice_index new.idle v
  pub each : (v n : ℕ) → from ≤ v → v < to → n < 2 ^ 62 → n ≤ slice_index old.idle v → n + 1 ≤ slice_index new.idle v

-- One prefix was got, perhaps after deques that gave nothing.
pub record HasGot (old new : SeatView) (prefix : List ℕ) : Type 0 where
  pub places : HasPlaces new
  pub room : new.room ≡ old.room
  pub puts : new.puts ≡ old.puts
  pub back : new.back ≡ old.back
  pub each : (other : List ℕ) → times other (got new) ≡ times other (got old) + times other (prefix ∷ [])
  pub count : length (got new) ≡ length (got old) + 1
  pub misses : (n : ℕ) → n < 2 ^ 63 → n ≤ sum old.misses → n ≤ sum new.misses

-- Some prefixes were put, or came back and went into the outbox.
pub record HasHanded (prefixes : List (List ℕ)) (old new : SeatView) (outbox after : List (List ℕ)) : Type 0 where
  pub places : HasPlaces new
  pub gets : new.gets ≡ old.gets
  pub misses : new.misses ≡ old.misses
  pub each : (prefix : List ℕ) → times prefix (new.puts ++ after) ≡ times prefix (old.puts ++ outbox) + times prefix prefixes
  pub back : (prefix : List ℕ) → times prefix new.back + times prefix outbox ≡ times prefix old.back + times prefix after
  pub room : length new.puts < new.room → after ≡ outbox
  pub longer : length old.puts ≤ length new.puts
  pub same : new.room ≡ old.room
