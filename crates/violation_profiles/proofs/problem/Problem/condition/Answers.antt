use Rattle.std.proofs.Common.{◌≡◌, length, refl, sym, ◌∙◌}
use Rattle.ot_theory.specs.Conditions.{condition, is_win, is_loss}
use Rattle.ot_theory.specs.Languages.{profile_at}
use Rattle.erc_vectors.proofs.Bits.{IsMask-below, masks-apart}
use Rattle.violation_profiles.proofs.Inputs.{length-condition_at}
use Rattle.violation_profiles.proofs.Masked.{same-masks}
use Rattle.violation_profiles.proofs.problem.Problem.condition.Goals as goal

pub of_masks-requires-clause-wins : goal.of_masks-requires-clause-wins
of_masks-requires-clause-wins c =
    let marks = condition (profile_at c.args.self.now c.args.i.0 c.args.a.0) (profile_at c.args.self.now c.args.i.0 c.args.b.0) in
    let long : length marks ≡ c.constraints-width.result =
    length-condition_at c.args.self.now c.args.i.0 c.args.a.0 c.args.b.0 c.constraints-width.ensures.well_formed c.requires.input c.requires.winner c.requires.loser ∙ sym c.constraints-width.ensures.value in
    rw long at (IsMask-below is_win marks _ refl c.masks-wins.ensures.wins)

pub of_masks-requires-clause-losses : goal.of_masks-requires-clause-losses
of_masks-requires-clause-losses c =
    let marks = condition (profile_at c.args.self.now c.args.i.0 c.args.a.0) (profile_at c.args.self.now c.args.i.0 c.args.b.0) in
    let long : length marks ≡ c.constraints-width.result =
    length-condition_at c.args.self.now c.args.i.0 c.args.a.0 c.args.b.0 c.constraints-width.ensures.well_formed c.requires.input c.requires.winner c.requires.loser ∙ sym c.constraints-width.ensures.value in
    rw long at (IsMask-below is_loss marks _ refl c.masks-wins.ensures.losses)

pub of_masks-requires-clause-apart : goal.of_masks-requires-clause-apart
of_masks-requires-clause-apart c = masks-apart _ _ _ c.masks-wins.ensures.wins c.masks-wins.ensures.losses

pub returns-clause-marks : goal.returns-clause-marks
returns-clause-marks c =
    let marks = condition (profile_at c.args.self.now c.args.i.0 c.args.a.0) (profile_at c.args.self.now c.args.i.0 c.args.b.0) in
    let long : length marks ≡ c.constraints-width.result =
    length-condition_at c.args.self.now c.args.i.0 c.args.a.0 c.args.b.0 c.constraints-width.ensures.well_formed c.requires.input c.requires.winner c.requires.loser ∙ sym c.constraints-width.ensures.value in
    same-masks c.constraints-width.result _ _ c.of_masks.result marks c.of_masks.ensures.width long c.of_masks.ensures.wins c.of_masks.ensures.losses c.masks-wins.ensures.wins c.masks-wins.ensures.losses
