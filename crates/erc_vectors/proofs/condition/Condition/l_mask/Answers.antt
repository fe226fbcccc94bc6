use Rattle.erc_vectors.specs.declared.condition.TheConstants.{LIMIT}
use Rattle.erc_vectors.proofs.Bits.{IsMask-seen_losses, width-seen}
use Rattle.erc_vectors.proofs.condition.Condition.l_mask.Goals as goal

pub returns-clause-mask : goal.returns-clause-mask
returns-clause-mask c = IsMask-seen_losses LIMIT _ _ _ _ c.self.view_is c.self.invariant

pub returns-clause-below : goal.returns-clause-below
returns-clause-below c = rw (← width-seen _ _ _ _ c.self.view_is) c.self.invariant.losses_below
