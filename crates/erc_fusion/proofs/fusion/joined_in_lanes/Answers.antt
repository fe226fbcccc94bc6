use Rattle.std.proofs.Common.{◌+◌, ◌*◌, arith, refl}
use Rattle.ot_theory.specs.Conditions.{is_win, is_loss}
use Rattle.erc_fusion.proofs.Fused.{AreLanes-none, AreLanes-more, AreLanes-all, mask-behind}
use Rattle.erc_fusion.proofs.fusion.joined_in_lanes.Goals as goal

pub loop-k-init : goal.loop-k-init
loop-k-init c = record { wins = AreLanes-none is_win c.args.set.now; losses = AreLanes-none is_loss c.args.set.now }

pub loop-k-preserved : goal.loop-k-preserved
loop-k-preserved c =
    let set = c.args.set.now in
    let start = 4 * c.loop-k.k in
    record {
      wins = AreLanes-more is_win set c.loop-k.k c.loop-k.wins _ refl
          (omega arith, mask-behind is_win set start 0 (start) _ _ (omega arith) (omega arith) c.index-four-0.is c.w_mask.ensures.mask, (omega arith, mask-behind is_win set start 1 (start + 1) _ _ (omega arith) (omega arith) c.index-four-1.is c.w_mask-in-loop-k.ensures.mask, (omega arith, mask-behind is_win set start 2 (start + 1 + 1) _ _ (omega arith) (omega arith) c.index-four-2.is c.w_mask-in-loop-k-2.ensures.mask, (omega arith, mask-behind is_win set start 3 (start + 1 + 1 + 1) _ _ (omega arith) (omega arith) c.index-four-3.is c.w_mask-in-loop-k-3.ensures.mask, tt))))
          c.loop-k.invariant.wins;
      losses = AreLanes-more is_loss set c.loop-k.k c.loop-k.losses _ refl
          (omega arith, mask-behind is_loss set start 0 (start) _ _ (omega arith) (omega arith) c.index-four-0-in-loop-k.is c.l_mask.ensures.mask, (omega arith, mask-behind is_loss set start 1 (start + 1) _ _ (omega arith) (omega arith) c.index-four-1-in-loop-k.is c.l_mask-in-loop-k.ensures.mask, (omega arith, mask-behind is_loss set start 2 (start + 1 + 1) _ _ (omega arith) (omega arith) c.index-four-2-in-loop-k.is c.l_mask-in-loop-k-2.ensures.mask, (omega arith, mask-behind is_loss set start 3 (start + 1 + 1 + 1) _ _ (omega arith) (omega arith) c.index-four-3-in-loop-k.is c.l_mask-in-loop-k-3.ensures.mask, tt))))
          c.loop-k.invariant.losses;
    }

pub returns-clause-wins : goal.returns-clause-wins
returns-clause-wins c = AreLanes-all is_win c.args.set.now c.loop-k.k c.loop-k.wins (omega arith) c.loop-k.invariant.wins

pub returns-clause-losses : goal.returns-clause-losses
returns-clause-losses c = AreLanes-all is_loss c.args.set.now c.loop-k.k c.loop-k.losses (omega arith) c.loop-k.invariant.losses
