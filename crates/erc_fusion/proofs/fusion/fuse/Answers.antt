use Rattle.std.proofs.Common.{◌≡◌, [], length, arith, ap, ◌∙◌}
use Rattle.std.proofs.lemmas.List.{get_or_read}
use Rattle.ot_theory.specs.Conditions.{width_of}
use Rattle.erc_fusion.proofs.Fused.{fusion-masks}
use Rattle.erc_fusion.proofs.fusion.fuse.Goals as goal

pub returns-clause-fusion : goal.returns-clause-fusion
returns-clause-fusion c =
    let set = c.args.set.now in
    let first = get_or_read set 0 c.index-set-0.result c.requires.some c.index-set-0.is [] in
    let width : c.width-width.result ≡ width_of set = c.width-width.ensures.width ∙ ap length first in
    fusion-masks (width_of set) set _ _ c.of_masks.result (omega (arith, width, c.width-width.ensures.small)) (omega arith) c.joined-wins.ensures.wins c.joined-wins.ensures.losses
    (c.of_masks.ensures.width ∙ width) c.of_masks.ensures.wins c.of_masks.ensures.losses
