use Rattle.std.proofs.Common.{arith, refl, ◌<◌}
use Rattle.std.specs.Int.{trailing_zeros, w64}
use Rattle.demotion.proofs.Placing.{AreGiven-start, AreGiven-end, AreGiven-more, AreGiven-fewer, bit_of, left-less}
use Rattle.demotion.proofs.rounds.place.Goals as goal

pub loop-levels-init : goal.loop-levels-init
loop-levels-init c = AreGiven-start c.args.bits c.args.given c.args.levels.now

pub loop-levels-preserved : goal.loop-levels-preserved
loop-levels-preserved c =
    let within : trailing_zeros w64 c.loop-levels.left < 64 = omega (arith, c.if-c-levels.false, c.requires.small, c.loop-levels.invariant.same) in
    rw (bit_of (trailing_zeros w64 c.loop-levels.left) within)
    (AreGiven-more c.args.bits c.loop-levels.left c.args.given _ c.args.levels.now c.loop-levels.levels (omega arith) refl (omega (arith, c.if-c-levels.false)) (omega (arith, c.requires.small, c.loop-levels.invariant.same)) c.requires.some c.requires.free c.loop-levels.invariant)

pub loop-levels-smaller : goal.loop-levels-smaller
loop-levels-smaller c =
    let within : trailing_zeros w64 c.loop-levels.left < 64 = omega (arith, c.if-c-levels.false, c.requires.small, c.loop-levels.invariant.same) in
    rw (bit_of (trailing_zeros w64 c.loop-levels.left) within) (left-less c.loop-levels.left _ (omega arith) refl within)

pub returns-then-c-levels-clause-each : goal.returns-then-c-levels-clause-each
returns-then-c-levels-clause-each c = AreGiven-end c.args.bits c.loop-levels.left c.args.given _ c.args.levels.now c.loop-levels.levels (omega arith) refl c.if-c-levels.true c.loop-levels.invariant

pub returns-then-c-levels-clause-fewer : goal.returns-then-c-levels-clause-fewer
returns-then-c-levels-clause-fewer c = λ some. AreGiven-fewer c.args.bits c.loop-levels.left c.args.given c.args.levels.now c.loop-levels.levels c.if-c-levels.true some c.loop-levels.invariant
