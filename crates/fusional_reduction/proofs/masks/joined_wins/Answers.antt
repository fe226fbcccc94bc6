use Rattle.ot_theory.specs.Conditions.{is_win}
use Rattle.fusional_reduction.proofs.ByMasks.{IsJoined-step}
use Rattle.fusional_reduction.proofs.masks.joined_wins.Goals as goal

pub loop-condition-preserved : goal.loop-condition-preserved
loop-condition-preserved c = IsJoined-step is_win c.args.set.now c.loop-condition.condition-index c.condition-item.result c.loop-condition.wins c.w_mask-wins.result c.loop-condition-test.true c.condition-item.is c.w_mask-wins.ensures.mask c.loop-condition.invariant
