use Rattle.std.proofs.Common.{◌≡◌, ◌+◌, ◌*◌, ◌-◌, ◌%◌, length, arith, ◌∙◌}
use Rattle.ot_theory.specs.Conditions.{condition, is_win, is_loss}
use Rattle.erc_vectors.proofs.Bits.{IsMask-all}
use Rattle.violation_profiles.proofs.Masked.{length-condition, wins-lanes, losses-lanes, wins-more, losses-more, bool_byte-cond}
use Rattle.violation_profiles.proofs.masks.masks_of.Goals as goal

pub loop-k-preserved : goal.loop-k-preserved
loop-k-preserved c =
    let start = 4 * c.loop-k.k in
    let next : 4 * (c.loop-k.k + 1) ≡ start + 4 = omega arith in
    record {
      wins = rw (next, c.fewer_in_lanes-wins.ensures) (wins-lanes c.args.winner.now c.args.loser.now start _ c.requires.same (omega arith) c.loop-k.invariant.wins);
      losses = rw (next, c.fewer_in_lanes-losses.ensures) (losses-lanes c.args.winner.now c.args.loser.now start _ c.requires.same (omega arith) c.loop-k.invariant.losses);
    }

pub loop-c-init : goal.loop-c-init
loop-c-init c =
    let n = length c.args.winner.now in
    let same : n - n % 4 ≡ 4 * c.loop-k.k = omega arith in
    record { wins = rw same c.loop-k.invariant.wins; losses = rw same c.loop-k.invariant.losses }

pub loop-c-preserved : goal.loop-c-preserved
loop-c-preserved c = record {
  wins = rw (c.from.ensures ∙ bool_byte-cond _) (wins-more c.args.winner.now c.args.loser.now c.loop-c.c _ c.requires.same c.loop-c-test.true (omega arith) c.loop-c.invariant.wins);
  losses = rw (c.from-in-loop-c.ensures ∙ bool_byte-cond _) (losses-more c.args.winner.now c.args.loser.now c.loop-c.c _ c.requires.same c.loop-c-test.true (omega arith) c.loop-c.invariant.losses);
}

pub returns-clause-wins : goal.returns-clause-wins
returns-clause-wins c = IsMask-all is_win (condition c.args.winner.now c.args.loser.now) c.loop-c.c _ (omega (arith, length-condition c.args.winner.now c.args.loser.now c.requires.same)) c.loop-c.invariant.wins

pub returns-clause-losses : goal.returns-clause-losses
returns-clause-losses c = IsMask-all is_loss (condition c.args.winner.now c.args.loser.now) c.loop-c.c _ (omega (arith, length-condition c.args.winner.now c.args.loser.now c.requires.same)) c.loop-c.invariant.losses
