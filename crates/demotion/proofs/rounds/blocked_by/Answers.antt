use Rattle.demotion.proofs.Masked.{blocked-more}
use Rattle.demotion.proofs.rounds.blocked_by.Goals as goal

pub loop-condition-preserved : goal.loop-condition-preserved
loop-condition-preserved c =
    blocked-more c.args.placed c.args.set.now c.loop-condition.condition-index c.loop-condition.blocked c.losses_if_open-blocked.result c.condition-item.result c.loop-condition-test.true c.loop-condition.invariant
    (rw (← c.condition-item.is) c.losses_if_open-blocked.ensures)
