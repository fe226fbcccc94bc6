-- Each mask is that of one constraint.
use Rattle.std.proofs.Common.{arith, refl}
use Rattle.ot_theory.specs.Conditions.{is_win, is_loss, over}
use Rattle.ot_theory.proofs.Pairs.{length-over}
use Rattle.erc_vectors.proofs.Bits.{IsMask-below, masks-apart}
use Rattle.violation_profiles.proofs.Masked.{same-masks}
use Rattle.violation_profiles.proofs.Pairs.{wins-over, losses-over}
use Rattle.violation_profiles.proofs.given.over.Goals as goal

pub overflow_shl-above : goal.overflow_shl-above
overflow_shl-above c = omega (arith, c.requires.few, c.requires.pair.above)

pub overflow_shl-below : goal.overflow_shl-below
overflow_shl-below c = omega (arith, c.requires.few, c.requires.pair.below)

pub of_masks-requires-clause-wins : goal.of_masks-requires-clause-wins
of_masks-requires-clause-wins c =
    let pair = c.requires.pair in
    let marks = over c.args.width c.args.pair.above.0 c.args.pair.below.0 in
    rw (length-over c.args.width c.args.pair.above.0 c.args.pair.below.0) at (IsMask-below is_win marks _ refl (wins-over c.args.width c.args.pair.above.0 c.args.pair.below.0 pair.above pair.below (omega (arith, c.requires.few, pair.above))))

pub of_masks-requires-clause-losses : goal.of_masks-requires-clause-losses
of_masks-requires-clause-losses c =
    let pair = c.requires.pair in
    let marks = over c.args.width c.args.pair.above.0 c.args.pair.below.0 in
    rw (length-over c.args.width c.args.pair.above.0 c.args.pair.below.0) at (IsMask-below is_loss marks _ refl (losses-over c.args.width c.args.pair.above.0 c.args.pair.below.0 pair.above pair.below pair.differ (omega (arith, c.requires.few, pair.below))))

pub of_masks-requires-clause-apart : goal.of_masks-requires-clause-apart
of_masks-requires-clause-apart c =
    let pair = c.requires.pair in
    let n = c.args.width in
    let above = c.args.pair.above.0 in
    let below = c.args.pair.below.0 in
    masks-apart (over n above below) _ _ (wins-over n above below pair.above pair.below (omega (arith, c.requires.few, pair.above))) (losses-over n above below pair.above pair.below pair.differ (omega (arith, c.requires.few, pair.below)))

pub returns-clause-marks : goal.returns-clause-marks
returns-clause-marks c =
    let pair = c.requires.pair in
    let n = c.args.width in
    let above = c.args.pair.above.0 in
    let below = c.args.pair.below.0 in
    same-masks n _ _ c.of_masks.result (over n above below) c.of_masks.ensures.width (length-over n above below) c.of_masks.ensures.wins c.of_masks.ensures.losses
    (wins-over n above below pair.above pair.below (omega (arith, c.requires.few, pair.above))) (losses-over n above below pair.above pair.below pair.differ (omega (arith, c.requires.few, pair.below)))
