use Rattle.std.proofs.Common.{◌<◌, length, ap, arith}
use Rattle.prefix_deques.specs.Lanes.{SeatView}
use Rattle.search_rows.specs.declared.deques.Hand.{Hand}
use Rattle.prefix_deques.proofs.Making.{head_out}
use Rattle.search_rows.proofs.Staying.{moved_one, moved_all}
use Rattle.search_rows.proofs.deques.ended.Goals as goal

abbrev seat_of : Hand → SeatView
seat_of h = h.seat

pub loop-preserved : goal.loop-preserved
loop-preserved c =
    let h = c.loop.invariant in
    let some : 0 < length c.loop.hands.items = (let t = c.loop-test.true in let e = c.len-end.ensures in let k = c.args.hands.ok.0 in let a = h.1 in omega arith) in
    let out = head_out c.loop.hands.items c.remove-hand.new.self.items c.remove-hand.result some c.remove-hand.ensures.value c.remove-hand.ensures.by_index.2 in (
      moved_one seat_of c.loop.seats c.push.new.self c.loop.hands.items c.remove-hand.new.self.items c.args.hands.items c.remove-hand.result c.in_ok-push.ensures.ok out h.0,
      (let a = h.1 in let b = ap length out in omega arith),
    )

pub settle_up-requires : goal.settle_up-requires
settle_up-requires c =
    let h = c.loop.invariant in
    moved_all seat_of c.loop.seats c.loop.hands.items c.args.hands.items h.0 (let t = c.loop-test.false in let e = c.len-end.ensures in let k = c.args.hands.ok.0 in let a = h.1 in omega arith) c.requires
