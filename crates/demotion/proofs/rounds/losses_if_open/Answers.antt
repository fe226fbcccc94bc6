use Rattle.std.proofs.Common.{arith}
use Rattle.demotion.proofs.Masked.{losses-closed, losses-none, losses-open}
use Rattle.demotion.proofs.rounds.losses_if_open.Goals as goal

pub returns-then-losses-eq0 : goal.returns-then-losses-eq0
returns-then-losses-eq0 c = losses-none c.args.condition.now c.l_mask-losses.result c.args.placed c.l_mask-losses.ensures.mask c.if-losses-eq0.true

pub returns-then-w_mask-placed-eq0 : goal.returns-then-w_mask-placed-eq0
returns-then-w_mask-placed-eq0 c = losses-open c.args.condition.now c.w_mask.result c.l_mask-losses.result c.args.placed c.requires (omega arith) c.w_mask.ensures.mask c.l_mask-losses.ensures.mask c.if-w_mask-placed-eq0.true

pub returns-else-w_mask-placed-eq0 : goal.returns-else-w_mask-placed-eq0
returns-else-w_mask-placed-eq0 c = losses-closed c.args.condition.now c.w_mask.result c.args.placed c.requires (omega arith) c.w_mask.ensures.mask c.if-w_mask-placed-eq0.false
