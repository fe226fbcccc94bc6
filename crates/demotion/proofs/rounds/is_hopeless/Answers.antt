use Rattle.std.proofs.Common.{arith, sym}
use Rattle.std.specs.Int.{bit_not, w64}
use Rattle.std.proofs.lemmas.Nat.{le_or_l}
use Rattle.demotion.proofs.Stuck.{IsPlaced-none, IsPlaced-more, hopeless-placed, kept-placed}
use Rattle.demotion.proofs.rounds.is_hopeless.Goals as goal

pub loop-placed-init : goal.loop-placed-init
loop-placed-init c = IsPlaced-none _ _

pub loop-placed-preserved : goal.loop-placed-preserved
loop-placed-preserved c = IsPlaced-more c.args.n c.args.set.now c.loop-placed.placed c.blocked_by.result c.requires.within (omega arith) (omega arith) c.requires.widths c.blocked_by.ensures c.loop-placed.invariant

pub loop-placed-smaller : goal.loop-placed-smaller
loop-placed-smaller c = omega (arith, le_or_l c.loop-placed.placed (bit_not w64 c.blocked_by.result))

pub returns-then-more-placed : goal.returns-then-more-placed
returns-then-more-placed c = sym (hopeless-placed c.args.n c.args.set.now c.loop-placed.placed c.blocked_by.result c.requires.within (omega arith) (omega arith) c.requires.widths c.blocked_by.ensures c.loop-placed-test.true c.if-more-placed.true)

pub returns : goal.returns
returns c = sym (kept-placed c.args.n c.args.set.now c.loop-placed.placed c.requires.within c.requires.widths c.loop-placed-test.false c.loop-placed.invariant)
