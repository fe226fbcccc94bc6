use Rattle.std.proofs.Common.{arith, sym, ◌∙◌}
use Rattle.demotion.proofs.Opened.{listed-in, listed-out}
use Rattle.demotion.proofs.demoted.open_positions.Goals as goal
use Rattle.demotion.proofs.demoted.open_positions.Goals.{then-is_open+in_ok-push, else-is_open}

pub loop-k-preserved : goal.loop-k-preserved
loop-k-preserved c = elim c.if-is_open.branch [
  | then-is_open+in_ok-push w ↦ rw (w.positions-is, w.in_ok-push.ensures.ok, c.loop-k.invariant) (listed-in c.args.levels.now c.args.set.now c.loop-k.k c.index-set-k.result (omega arith) c.index-set-k.is (sym c.is_open.ensures ∙ w.if-is_open.true))
  | else-is_open w ↦ rw (w.positions-is, c.loop-k.invariant) (listed-out c.args.levels.now c.args.set.now c.loop-k.k c.index-set-k.result (omega arith) c.index-set-k.is (sym c.is_open.ensures ∙ w.if-is_open.false))
]
