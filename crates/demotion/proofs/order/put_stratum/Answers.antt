use Rattle.std.proofs.Common.{◌≡◌, ◌≢◌, get_or, arith, refl}
use Rattle.demotion.proofs.Stratum.{room-below, IsWrittenBelow-in, IsWrittenBelow-out}
use Rattle.demotion.proofs.order.put_stratum.Goals as goal
use Rattle.demotion.proofs.order.put_stratum.Goals.{then-level, else-level}

pub bounds-list-end : goal.bounds-list-end
bounds-list-end c =
    let here : get_or c.args.s.now c.loop-c.c 0 ≡ c.args.level = cc in
    room-below _ _ _ _ _ _ _ here (omega arith) (omega (arith, c.requires.room)) c.loop-c.invariant

pub loop-c-preserved : goal.loop-c-preserved
loop-c-preserved c = elim c.if-level.branch [
  | then-level w ↦
      let here : get_or c.args.s.now c.loop-c.c 0 ≡ c.args.level = cc in
      rw (w.list-is, w.end-is)
      (IsWrittenBelow-in _ _ _ _ _ _ _ _ here refl (room-below _ _ _ _ _ _ _ here (omega arith) (omega (arith, c.requires.room)) c.loop-c.invariant) c.loop-c.invariant)
  | else-level w ↦
      let other : get_or c.args.s.now c.loop-c.c 0 ≢ c.args.level = rw c.level.ensures at w.if-level.false in
      rw (w.list-is, w.end-is) (IsWrittenBelow-out _ _ _ _ _ _ _ other c.loop-c.invariant)
]
