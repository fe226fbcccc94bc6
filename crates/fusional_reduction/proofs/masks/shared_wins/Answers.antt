use Rattle.std.proofs.lemmas.Nat.Bits.{bit_at_ones}
use Rattle.fusional_reduction.proofs.ByMasks.{IsShared-step}
use Rattle.fusional_reduction.proofs.masks.shared_wins.Goals as goal

pub loop-condition-init : goal.loop-condition-init
loop-condition-init c = λ k small. bit_at_ones 64 k small

pub loop-condition-preserved : goal.loop-condition-preserved
loop-condition-preserved c = IsShared-step c.args.set.now c.loop-condition.condition-index c.condition-item.result c.loop-condition.wins c.w_mask-wins.result c.loop-condition-test.true c.condition-item.is c.w_mask-wins.ensures.mask c.loop-condition.invariant
