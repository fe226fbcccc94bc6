use Rattle.std.proofs.Common.{◌≡◌, ◌+◌, ◌-◌, ◌%◌, ◌<◌, [], arith, length, refl}
use Rattle.std.proofs.lemmas.List.{take_all}
use Rattle.ot_theory.specs.Conditions.{is_win, is_loss}
use Rattle.erc_fusion.proofs.Fused.{IsJoined-more, IsJoined-below, mask-behind, behind-end, behind-within}
use Rattle.erc_fusion.proofs.fusion.joined.Goals as goal

pub loop-condition-init : goal.loop-condition-init
loop-condition-init c =
    let set = c.args.set.now in
    let whole = length set - length set % 4 in
    let e : whole + 0 ≡ whole = omega arith in
    record { wins = rw e c.joined_in_lanes-wins.ensures.wins; losses = rw e c.joined_in_lanes-wins.ensures.losses }

pub loop-condition-preserved : goal.loop-condition-preserved
loop-condition-preserved c =
    let set = c.args.set.now in
    let whole = length set - length set % 4 in
    let k = c.loop-condition.condition-index in
    let within : whole + k < length set = behind-within set whole k (omega arith) c.loop-condition-test.true in
    let e : whole + (k + 1) ≡ whole + k + 1 = omega arith in
    record {
      wins = rw e (IsJoined-more is_win set (whole + k) _ _ [] within (mask-behind is_win set whole k (whole + k) _ _ refl within c.condition-item.is c.w_mask-wins.ensures.mask) c.loop-condition.invariant.wins);
      losses = rw e (IsJoined-more is_loss set (whole + k) _ _ [] within (mask-behind is_loss set whole k (whole + k) _ _ refl within c.condition-item.is c.l_mask-losses.ensures.mask) c.loop-condition.invariant.losses);
    }

pub returns-clause-wins : goal.returns-clause-wins
returns-clause-wins c =
    let set = c.args.set.now in
    let whole = length set - length set % 4 in
    let k = c.loop-condition.condition-index in
    rw (take_all (whole + k) set (behind-end set whole k (omega arith) c.loop-condition-test.false)) at c.loop-condition.invariant.wins

pub returns-clause-losses : goal.returns-clause-losses
returns-clause-losses c =
    let set = c.args.set.now in
    let whole = length set - length set % 4 in
    let k = c.loop-condition.condition-index in
    rw (take_all (whole + k) set (behind-end set whole k (omega arith) c.loop-condition-test.false)) at c.loop-condition.invariant.losses

pub returns-clause-wins_below : goal.returns-clause-wins_below
returns-clause-wins_below c = IsJoined-below is_win c.args.width c.args.set.now c.loop-condition.wins refl c.requires (returns-clause-wins c)

pub returns-clause-losses_below : goal.returns-clause-losses_below
returns-clause-losses_below c = IsJoined-below is_loss c.args.width c.args.set.now c.loop-condition.losses refl c.requires (returns-clause-losses c)
