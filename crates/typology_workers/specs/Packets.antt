-- The packets of the workers: how prefixes are dealt to them, and what the workers leave.
use Rattle.std.specs.Prelude.{◌≡◌, ℕ, ◌+◌, List, [], ◌∷◌, ◌++◌, map, flat_map, length, All, IfOk, Ok}
use Rattle.std.specs.List.{AllZip}
use Rattle.ot_theory.specs.Problems.{Problem}
use Rattle.prefix_deques.specs.Booked.{IsMake}
use Rattle.prefix_deques.specs.Lanes.{HasPlaces, SeatView}
use Rattle.prefix_deques.specs.Made.{AreNew}
use Rattle.refutation_store.specs.Fronts.{Begins}
use Rattle.search_deeds.specs.Deeds.{times}
use Rattle.typology_workers.specs.Stays.{KeepsFront, KeepsSeat}
use Rattle.typology_workers.specs.Worked.{IsWorked}
use Rattle.typology_workers.specs.declared.halves.Ended.{Ended}
use Rattle.typology_workers.specs.declared.halves.Packet.{Packet}
use Rattle.typology_workers.specs.declared.outcome.Work.{Work}
use Rattle.typology_workers.specs.declared.parting.Parts.{Parts}

abbrev pub seats_of : List Packet → List SeatView
seats_of packets = map (λ packet. packet.seat) packets

-- what all seats have put, and what was handed back to them
abbrev pub puts_of : List SeatView → List (List ℕ)
puts_of seats = flat_map (λ seat. seat.puts) seats

abbrev pub back_of : List SeatView → List (List ℕ)
back_of seats = flat_map (λ seat. seat.back) seats

-- a packet but for what putting changes
abbrev pub but_puts : Packet → Packet
but_puts packet = record packet { seat = record packet.seat { puts = []; back = []; idle = [] } }

-- The prefix stands among the puts of the seat, or among those that were handed back, of which there were some before.
pub record IsPut (old : Packet) (prefix : List ℕ) (new : Packet) (before after : List (List ℕ)) : Type 0 where
  pub same : but_puts new ≡ but_puts old
  pub puts : (p : List ℕ) → times p new.seat.puts + times p after ≡ times p old.seat.puts + times p before + times p (prefix ∷ [])
  pub back : (p : List ℕ) → times p new.seat.back + times p before ≡ times p old.seat.back + times p after

-- Of the prefixes that waited, each stands among the puts of a seat, was handed back, or still waits.
pub record AreDealt (old : List Packet) (waited : List (List ℕ)) (new : List Packet) (handed waiting : List (List ℕ)) : Type 0 where
  pub same : map but_puts new ≡ map but_puts old
  pub puts : (p : List ℕ) → times p (puts_of (seats_of new)) + times p handed + times p waiting ≡ times p (puts_of (seats_of old)) + times p waited
  pub back : (p : List ℕ) → times p (back_of (seats_of new)) ≡ times p (back_of (seats_of old)) + times p handed

-- a seat and a front that a worker may go to work with
pub record IsReady (store : List ℕ) (packet : Packet) : Type 0 where
  pub of_store : packet.front.store ≡ store
  pub seat : All (λ misses. misses ≡ 0) packet.seat.misses
  pub front : packet.front.misses ≡ 0

-- what the call of a worker says of the packet
pub record HasRun (problem : Problem) (store : List ℕ) (packet : Packet) (ended : Ended) : Type 0 where
  pub seat : KeepsSeat packet.seat ended.packet.seat
  pub front : KeepsFront (length store) packet.front ended.packet.front
  pub worked : IfOk ended.work (IsWorked problem (length store) packet.seat ended.packet.seat ended.packet.front)

-- each of them, in the same order
abbrev pub AllRan : Problem → List ℕ → List Packet → List Ended → Type 0
AllRan problem store [] [] = Unit {0}
AllRan problem store [] (one ∷ ended) = ⊥
AllRan problem store (packet ∷ packets) [] = ⊥
AllRan problem store (packet ∷ packets) (one ∷ ended) = HasRun problem store packet one × AllRan problem store packets ended

-- the seat, the front and the deeds of one worker more, and what was handed back to it waits too
pub record AddsParts (old : Parts) (ended : Ended) (new : Parts) : Type 0 where
  pub work : Work
  pub done : ended.work ≡ Ok work
  pub places : HasPlaces ended.packet.seat
  pub seats : new.seats ≡ old.seats ++ ended.packet.seat ∷ []
  pub fronts : new.fronts ≡ old.fronts ++ ended.packet.front ∷ []
  pub deeds : new.deeds ≡ old.deeds ++ work.deeds ∷ []
  pub waiting : (p : List ℕ) → times p new.waiting.items ≡ times p (old.waiting.items ++ work.outbox)

-- those of all, of whom none wanted memory
pub record ArePartsOf (before : List (List ℕ)) (ended : List Ended) (parts : Parts) : Type 0 where
  pub works : List Work
  pub done : AllZip (λ one work. one.work ≡ Ok work) ended works
  pub places : All HasPlaces parts.seats
  pub seats : parts.seats ≡ map (λ one. one.packet.seat) ended
  pub fronts : parts.fronts ≡ map (λ one. one.packet.front) ended
  pub deeds : parts.deeds ≡ map (λ work. work.deeds) works
  pub waiting : (p : List ℕ) → times p parts.waiting.items ≡ times p before + times p (flat_map (λ work. work.outbox) works)

-- New packets were made, the prefixes that waited were dealt to them, all workers ran, and these are the parts that they left.
pub record HasRunAll (problem : Problem) (workers : ℕ) (store : List ℕ) (waiting : List (List ℕ)) (parts : Parts) : Type 0 where
  pub fresh : List Packet
  pub dealt : List Packet
  pub handed : List (List ℕ)
  pub ended : List Ended
  pub new : AreNew workers (seats_of fresh)
  pub make : IsMake (seats_of fresh)
  pub begins : All (λ packet. Begins store packet.front) fresh
  pub dealing : AreDealt fresh waiting dealt handed []
  pub ran : AllRan problem store dealt ended
  pub left : ArePartsOf handed ended parts
