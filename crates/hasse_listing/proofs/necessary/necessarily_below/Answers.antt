use Rattle.std.proofs.Common.{ℕ, ◌*◌, ◌%◌, ◌^◌, ◌<◌, arith}
use Rattle.std.specs.Prelude.{bit_or}
use Rattle.std.specs.Int.{bit_not, w64}
use Rattle.std.proofs.lemmas.Nat.{le_or_l, or_lt}
use Rattle.demotion.proofs.Stuck.{IsPlaced-none}
use Rattle.hasse_listing.proofs.HeldBack.{IsHeldBack-more, IsIdle-same, AreBelow-idle}
use Rattle.hasse_listing.proofs.necessary.necessarily_below.Goals as goal

-- one bit more fits
fits : (a c : ℕ) → a < 2 ^ 64 → bit_or a (1 * 2 ^ c % 2 ^ 64) < 2 ^ 64
fits a c small = or_lt 64 a (1 * 2 ^ c % 2 ^ 64) small (omega arith)

pub loop-placed-init : goal.loop-placed-init
loop-placed-init c = IsPlaced-none _ _

pub loop-placed-preserved : goal.loop-placed-preserved
loop-placed-preserved c =
    IsHeldBack-more c.args.n c.args.set.now c.args.c c.loop-placed.placed c.blocked_by.result c.requires.within c.requires.constraint (omega arith) (fits c.blocked_by.result c.args.c c.blocked_by.type_inv) c.requires.widths c.blocked_by.ensures c.loop-placed.invariant

pub loop-placed-smaller : goal.loop-placed-smaller
loop-placed-smaller c =
    let free : ℕ = bit_not w64 (bit_or c.blocked_by.result (1 * 2 ^ c.args.c % 2 ^ 64)) in
    omega (arith, le_or_l c.loop-placed.placed free, or_lt 64 c.loop-placed.placed free (omega arith) (omega arith), c.if-more-placed.false)

pub returns-then-more-placed : goal.returns-then-more-placed
returns-then-more-placed c =
    AreBelow-idle c.args.n c.args.set.now c.args.c c.loop-placed.placed c.requires.within c.requires.constraint (fits c.loop-placed.placed c.args.c (omega arith)) c.requires.widths c.requires.kept
    (IsIdle-same c.args.set.now c.args.c c.loop-placed.placed c.blocked_by.result (omega arith) (fits c.blocked_by.result c.args.c c.blocked_by.type_inv) c.blocked_by.ensures c.if-more-placed.true)
    c.loop-placed.invariant
