use Rattle.std.proofs.Common.{arith, sym, ◌∙◌}
use Rattle.hasse_listing.proofs.Listed.{further-with, further-without, covered-bits}
use Rattle.hasse_listing.proofs.listing.covered_by.Goals as goal
use Rattle.hasse_listing.proofs.listing.covered_by.Goals.{then-has_bit, else-has_bit}

pub loop-k-preserved : goal.loop-k-preserved
loop-k-preserved c = elim c.if-has_bit.branch [
  | then-has_bit w ↦ rw w.further-is (further-with c.args.below.now c.args.c c.loop-k.k c.loop-k.further (sym c.has_bit.ensures ∙ w.if-has_bit.true) c.loop-k.invariant)
  | else-has_bit w ↦ rw w.further-is (further-without c.args.below.now c.args.c c.loop-k.k c.loop-k.further (sym c.has_bit.ensures ∙ w.if-has_bit.false) c.loop-k.invariant)
]

pub returns : goal.returns
returns c = λ d within. covered-bits c.args.n c.loop-k.k c.args.below.now c.args.c c.loop-k.further d (omega arith) (omega arith) (omega arith) c.loop-k.invariant
