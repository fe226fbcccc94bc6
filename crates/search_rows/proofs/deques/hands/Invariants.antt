use Rattle.std.proofs.Common.{◌≡◌, ◌++◌, length, map}
use Rattle.search_rows.specs.declared.deques.Hand.{Hand}
use Rattle.search_rows.proofs.deques.hands.Given as goal

abbrev pub invariant-loop-seat : goal.invariant-loop-seat
invariant-loop-seat l = l.initial.seats ≡ l.seats ++ map (λ (h : Hand). h.seat) l.hands.items

abbrev pub decreases-loop-seat : goal.decreases-loop-seat
decreases-loop-seat l = length l.seats
