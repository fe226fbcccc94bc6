use Rattle.std.proofs.Common.{sym, ◌∙◌}
use Rattle.ot_theory.specs.Conditions.{is_loss}
use Rattle.fusional_reduction.specs.Chosen.{lacks_in}
use Rattle.fusional_reduction.proofs.ByMasks.{IsJoined-in, IsJoined-out}
use Rattle.fusional_reduction.proofs.masks.losses_lacking.Goals as goal
use Rattle.fusional_reduction.proofs.masks.losses_lacking.Goals.{then-lacks_in, else-lacks_in}

pub loop-condition-preserved : goal.loop-condition-preserved
loop-condition-preserved c =
    let set = c.args.set.now in
    let k = c.loop-condition.condition-index in
    elim c.if-lacks_in.branch [
      | then-lacks_in w ↦ rw w.losses-is (IsJoined-in is_loss (lacks_in c.args.mask) set k c.condition-item.result c.loop-condition.losses w.l_mask-losses.result c.loop-condition-test.true c.condition-item.is (sym c.lacks_in.ensures ∙ w.if-lacks_in.true) w.l_mask-losses.ensures.mask c.loop-condition.invariant)
      | else-lacks_in w ↦ rw w.losses-is (IsJoined-out is_loss (lacks_in c.args.mask) set k c.condition-item.result c.loop-condition.losses c.loop-condition-test.true c.condition-item.is (sym c.lacks_in.ensures ∙ w.if-lacks_in.false) c.loop-condition.invariant)
    ]
