use Rattle.std.proofs.Common.{arith, ◌∙◌}
use Rattle.ot_theory.specs.Conditions.{width_of}
use Rattle.fusional_reduction.proofs.Added.{own-apart, added-none, added-one}
use Rattle.fusional_reduction.proofs.visit.add_member.Goals as goal

pub of_masks-skeletal-requires-clause-apart : goal.of_masks-skeletal-requires-clause-apart
of_masks-skeletal-requires-clause-apart c = own-apart c.args.fused.now _ _ _ c.w_mask-wins.ensures.mask c.l_mask.ensures.mask

pub returns-in_ok-push : goal.returns-in_ok-push
returns-in_ok-push c =
    added-one (width_of c.args.node.now) c.args.node.now c.args.fused.now c.of_masks-skeletal.result c.w_mask-wins.result c.l_mask.result c.losses_lacking.result c.args.members.now.items c.push.new.self.items
    c.requires.given c.requires.some
    (record { is = c.requires.fusion; few = omega arith; wins_small = omega arith; losses_small = omega arith; rest_small = omega arith; wins_mask = c.w_mask-wins.ensures.mask; losses_mask = c.l_mask.ensures.mask; joined = c.losses_lacking.ensures })
    c.if-own-ne0.true (c.of_masks-skeletal.ensures.width ∙ c.width-width.ensures.width) c.of_masks-skeletal.ensures.wins c.of_masks-skeletal.ensures.losses c.in_ok-push.ensures.items

pub returns-else-own-ne0 : goal.returns-else-own-ne0
returns-else-own-ne0 c =
    added-none (width_of c.args.node.now) c.args.node.now c.args.fused.now c.w_mask-wins.result c.l_mask.result c.losses_lacking.result c.args.members.now.items
    c.requires.given c.requires.some
    (record { is = c.requires.fusion; few = omega arith; wins_small = omega arith; losses_small = omega arith; rest_small = omega arith; wins_mask = c.w_mask-wins.ensures.mask; losses_mask = c.l_mask.ensures.mask; joined = c.losses_lacking.ensures })
    c.if-own-ne0.false
