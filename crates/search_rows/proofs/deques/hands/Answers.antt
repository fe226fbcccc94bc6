use Rattle.prefix_deques.specs.Lanes.{SeatView}
use Rattle.search_rows.specs.declared.deques.Hand.{Hand}
use Rattle.search_rows.proofs.Staying.{out_one, out_all}
use Rattle.search_rows.proofs.deques.hands.Goals as goal

abbrev seat_of : Hand → SeatView
seat_of h = h.seat

pub loop-seat-preserved : goal.loop-seat-preserved
loop-seat-preserved c = out_one seat_of c.in_ok-seats.seats c.loop-seat.seats c.pop.new.self c.loop-seat.hands.items c.insert.new.self.items (record { seat = c.in-Some.seat; got = c.new-got.result }) c.loop-seat.invariant c.in-Some.ensures c.in-Ok.ensures.items

pub returns : goal.returns
returns c = out_all seat_of c.in_ok-seats.seats c.loop-seat.seats c.loop-seat.hands.items c.loop-seat.invariant c.in_default.ensures.0 c.in_ok-seats.ensures.make
