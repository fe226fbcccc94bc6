-- What a worker got, what it did with it, and what it handed on.
use Rattle.std.specs.Prelude.{◌≡◌, ℕ, ◌+◌, ◌^◌, ◌<◌, ◌≤◌, ◌⊎◌, List, [], ◌++◌, map, length, flat_map, sum, slice_index, All}
use Rattle.ot_theory.specs.Problems.{Problem}
use Rattle.violation_profiles.specs.WellFormed.{IsPrefix}
use Rattle.search_deeds.specs.Deeds.{children, opened_in, times}
use Rattle.search_deeds.specs.Gathered.{deeds_in}
use Rattle.search_deeds.specs.declared.deed.Deed.{Deed}
use Rattle.prefix_deques.specs.Lanes.{SeatView}

-- the prefixes that a seat has got, of all deques
abbrev pub got : SeatView → List (List ℕ)
got seat = flat_map (map (λ get. get.1)) seat.gets

abbrev pub prefixes_of : List Deed → List (List ℕ)
prefixes_of deeds = map (λ deed. deed.prefix) deeds

-- The prefixes that the seat got since then are those of the deeds and the strange ones, each as often. The strange ones are
-- exactly those that are no prefixes of the problem.
pub record AreSettled (problem : Problem) (old new : SeatView) (deeds : List Deed) (strange : List (List ℕ)) : Type 0 where
  pub each : (prefix : List ℕ) → times prefix (got new) ≡ times prefix (got old) + times prefix (prefixes_of deeds ++ strange)
  pub prefixes : All (IsPrefix problem) (prefixes_of deeds)
  pub others : All (λ prefix. ¬ IsPrefix problem prefix) strange

-- The prefixes that the seat put since then and those in the outbox are the children of the opened ones, each as often. The
-- outbox is what was handed back to the seat since then, each as often. It is empty where the seat has ever put fewer prefixes
-- than it has room for.
pub record AreHandedOn (problem : Problem) (old new : SeatView) (deeds : List Deed) (outbox : List (List ℕ)) : Type 0 where
  pub each : (prefix : List ℕ) → times prefix (new.puts ++ outbox) ≡ times prefix old.puts + times prefix (flat_map (children problem) (opened_in (deeds_in deeds)))
  pub back : (prefix : List ℕ) → times prefix new.back ≡ times prefix (old.back ++ outbox)
  pub room : length new.puts < new.room → outbox ≡ []

-- Each deque has given nothing at least so many times since something was last got or put.
abbrev pub AreIdle : ℕ → SeatView → Type 0
AreIdle rounds seat = (v : ℕ) → v < length seat.make → rounds ≤ slice_index seat.idle v

-- The gets since then and the misses, of all deques together, are at least so many.
abbrev pub HasTried : ℕ → SeatView → SeatView → Type 0
HasTried turns old new = length (got old) + turns ≤ length (got new) + sum new.misses

-- Each deque has given nothing at least 4,096 times since something was last got or put, or the gets since then and the misses are
-- at least 2^40.
abbrev pub HasSearched : SeatView → SeatView → Type 0
HasSearched old new = AreIdle 4096 new ⊎ HasTried (2 ^ 40) old new
