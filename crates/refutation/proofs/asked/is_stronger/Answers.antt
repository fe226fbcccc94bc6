use Rattle.refutation.proofs.Implied.{stronger-masks}
use Rattle.refutation.proofs.asked.is_stronger.Goals as goal

pub returns-then-w_mask-wins : goal.returns-then-w_mask-wins
returns-then-w_mask-wins c h =
    stronger-masks c.args.condition.now c.args.weaker.now c.w_mask.result c.l_mask-losses.result c.w_mask-wins.result c.l_mask.result c.w_mask.ensures.mask c.l_mask-losses.ensures.mask c.w_mask-wins.ensures.mask c.l_mask.ensures.mask c.if-w_mask-wins.true h
