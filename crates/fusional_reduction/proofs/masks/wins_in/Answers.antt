use Rattle.fusional_reduction.proofs.ByMasks.{wins_in-mask}
use Rattle.fusional_reduction.proofs.masks.wins_in.Goals as goal

pub returns : goal.returns
returns c = wins_in-mask c.args.condition.now c.w_mask.result c.args.mask c.w_mask.ensures.mask
