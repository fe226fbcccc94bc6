use Rattle.std.proofs.Common.{◌==◌, ℕ, arith, ◌+◌, ◌<◌, refl, ◌∙◌, length, slice_index}
use Rattle.std.specs.Prelude.{Contains}
use Rattle.std.proofs.lemmas.List.Sums.{count_by-le-length}
use Rattle.std.proofs.lemmas.Nat.{or_lt}
use Rattle.ot_theory.proofs.Demotion.{AreRounds-none, AreRounds-more, ranked-rounds, IsStuck, IsStuck-idle, hopeless-stuck}
use Rattle.ot_theory.proofs.LeftOpen.{AreLeftOpen-stuck}
use Rattle.demotion.proofs.Masked.{IsRound-masked, placed-more, placed-none}
use Rattle.demotion.proofs.Placing.{free-unplaced, level-given, level-idle, unplaced-none}
use Rattle.demotion.proofs.rounds.place_in_rounds.Goals as goal
use Rattle.demotion.proofs.rounds.place_in_rounds.Goals.{Then-free-levels}

pub loop-round-init : goal.loop-round-init
loop-round-init c = record { rounds = AreRounds-none _ _ _ refl c.requires.unplaced; mask = placed-none _ c.requires.unplaced; few = omega (arith, count_by-le-length (λ x. x == 0) c.args.levels.now) }

pub returns-then-placed-clause-ranked : goal.returns-then-placed-clause-ranked
returns-then-placed-clause-ranked c = ranked-rounds _ _ _ _ c.requires.widths c.loop-round.invariant.rounds

pub returns-then-placed-clause-stuck : goal.returns-then-placed-clause-stuck
returns-then-placed-clause-stuck c = λ h. absurd (unplaced-none c.loop-round.placed c.loop-round.levels c.if-placed.true (omega (arith, c.requires.small, c.loop-round.auto.levels)) (λ d below. c.loop-round.invariant.mask d (omega (arith, c.loop-round.auto.levels))) h)

pub returns-then-placed-clause-left_open : goal.returns-then-placed-clause-left_open
returns-then-placed-clause-left_open c = λ h. absurd (unplaced-none c.loop-round.placed c.loop-round.levels c.if-placed.true (omega (arith, c.requires.small, c.loop-round.auto.levels)) (λ d below. c.loop-round.invariant.mask d (omega (arith, c.loop-round.auto.levels))) h)

-- where no constraint is free, a round changes nothing
idle : (c : Then-free-levels) → Contains c.loop-round.levels 0 → IsStuck (length c.args.levels.now) c.args.set.now c.loop-round.levels
idle c h =
    let round = IsRound-masked _ (c.loop-round.round + 1) _ _ _ c.loop-round.levels c.loop-round.levels c.requires.small c.loop-round.auto.levels refl c.requires.widths c.loop-round.invariant.mask c.blocked_by-blocked.ensures
    (λ d below. level-idle c.loop-round.placed c.blocked_by-blocked.result (c.loop-round.round + 1) (slice_index c.loop-round.levels d) d (length c.loop-round.levels) (omega arith) (omega arith) (or_lt 64 c.loop-round.placed c.blocked_by-blocked.result (omega arith) (omega arith))
    c.if-free-levels.true below (omega (arith, c.requires.small, c.loop-round.auto.levels)) (c.loop-round.invariant.mask d (omega (arith, c.loop-round.auto.levels)))) in
    IsStuck-idle _ _ _ _ _ c.loop-round.auto.levels (omega arith) round refl h

pub returns-then-free-levels-clause-ranked : goal.returns-then-free-levels-clause-ranked
returns-then-free-levels-clause-ranked c = ranked-rounds _ _ _ _ c.requires.widths c.loop-round.invariant.rounds

pub returns-then-free-levels-clause-stuck : goal.returns-then-free-levels-clause-stuck
returns-then-free-levels-clause-stuck c = λ h. hopeless-stuck _ _ _ (idle c h)

pub returns-then-free-levels-clause-left_open : goal.returns-then-free-levels-clause-left_open
returns-then-free-levels-clause-left_open c = λ h. AreLeftOpen-stuck _ _ _ c.loop-round.invariant.rounds.stays (idle c h)

pub place-requires-clause-free : goal.place-requires-clause-free
place-requires-clause-free c = λ d below free.
    free-unplaced c.loop-round.placed c.blocked_by-blocked.result (slice_index c.loop-round.levels d) d (or_lt 64 c.loop-round.placed c.blocked_by-blocked.result (omega arith) (omega arith)) (omega (arith, c.requires.small, c.loop-round.auto.levels))
    (c.loop-round.invariant.mask d (omega (arith, c.loop-round.auto.levels))) free

pub loop-round-preserved : goal.loop-round-preserved
loop-round-preserved c =
    let both = or_lt 64 c.loop-round.placed c.blocked_by-blocked.result (omega arith) (omega arith) in
    let each = λ (d : ℕ) (below : d < length c.place.new.levels). c.place.ensures.each d below
    ∙ level-given c.loop-round.placed c.blocked_by-blocked.result (c.loop-round.round + 1) (slice_index c.loop-round.levels d) d (omega arith) (omega arith) both (omega (arith, c.requires.small, c.loop-round.auto.levels, c.place.auto.levels))
    (c.loop-round.invariant.mask d (omega (arith, c.loop-round.auto.levels, c.place.auto.levels))) in
    let round = IsRound-masked _ (c.loop-round.round + 1) _ _ _ c.loop-round.levels c.place.new.levels c.requires.small c.loop-round.auto.levels c.place.auto.levels c.requires.widths c.loop-round.invariant.mask c.blocked_by-blocked.ensures each in
    record {
      rounds = AreRounds-more _ _ _ _ _ c.requires.widths round c.loop-round.invariant.rounds;
      mask = λ k below.
          placed-more _ (c.loop-round.round + 1) _ _ c.args.set.now c.loop-round.levels _ c.requires.small (omega arith) (omega arith) (omega arith) c.loop-round.invariant.mask c.blocked_by-blocked.ensures
          (λ d b. each d (omega (arith, c.place.auto.levels, c.loop-round.auto.levels))) k below;
      few = omega (arith, c.place.ensures.fewer c.if-free-levels.false, c.loop-round.invariant.few);
    }

pub returns-clause-ranked : goal.returns-clause-ranked
returns-clause-ranked c = ranked-rounds _ _ _ _ c.requires.widths c.loop-round.invariant.rounds
