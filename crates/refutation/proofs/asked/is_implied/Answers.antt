use Rattle.std.proofs.Common.{arith}
use Rattle.ot_theory.proofs.Redundant.{IsImplied-stronger}
use Rattle.refutation.proofs.Implied.{lossless-mask}
use Rattle.refutation.proofs.asked.is_implied.Goals as goal

pub returns-then-l_mask-eq0 : goal.returns-then-l_mask-eq0
returns-then-l_mask-eq0 c h = lossless-mask c.args.conditions.now c.args.condition.now c.l_mask.result c.l_mask.ensures.mask c.if-l_mask-eq0.true

pub returns-then-is_stronger : goal.returns-then-is_stronger
returns-then-is_stronger c h =
    IsImplied-stronger c.args.conditions.now c.args.condition.now c.loop-k.k c.index-conditions-k.result (omega (arith, c.loop-k-test.true)) (rw c.index-conditions-k.is at (c.is_stronger.ensures c.if-is_stronger.true))
