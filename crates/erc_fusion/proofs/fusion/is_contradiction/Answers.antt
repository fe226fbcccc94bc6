use Rattle.std.proofs.Common.{refl, arith}
use Rattle.ot_theory.specs.Conditions.{is_win, is_loss}
use Rattle.erc_vectors.proofs.Bits.{any-mask}
use Rattle.erc_fusion.proofs.Fused.{no_wins, no_losses}
use Rattle.erc_fusion.proofs.fusion.is_contradiction.Goals as goal

pub returns-then-l_mask-ne0 : goal.returns-then-l_mask-ne0
returns-then-l_mask-ne0 c =
    no_wins _ _ c.args.c.now (any-mask is_loss c.args.c.now _ refl (omega arith) c.l_mask.ensures.mask) (any-mask is_win c.args.c.now _ refl (omega arith) c.w_mask.ensures.mask) c.if-l_mask-ne0.true

pub returns-else-l_mask-ne0 : goal.returns-else-l_mask-ne0
returns-else-l_mask-ne0 c =
    no_losses _ c.args.c.now c.if-l_mask-ne0.false (any-mask is_loss c.args.c.now _ refl (omega arith) c.l_mask.ensures.mask)
