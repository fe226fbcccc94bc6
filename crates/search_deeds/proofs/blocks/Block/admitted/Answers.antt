use Rattle.std.proofs.Common.{arith}
use Rattle.search_deeds.proofs.blocks.Block.admitted.Goals as goal

pub loop-row-init : goal.loop-row-init
loop-row-init c = λ b h. h.present

pub returns-then-bits-eq0 : goal.returns-then-bits-eq0
returns-then-bits-eq0 c = λ b h.
    rw c.if-bits-eq0.true at (c.among-bits.ensures b (c.loop-row.invariant b h) (rw c.deref-row-items.ensures.value (h.rows c.loop-row.row-index _ (omega (arith, c.loop-row-test.true, c.deref-row-items.ensures.len)))))

pub loop-row-preserved : goal.loop-row-preserved
loop-row-preserved c = λ b h.
    c.among-bits.ensures b (c.loop-row.invariant b h) (rw c.deref-row-items.ensures.value (h.rows c.loop-row.row-index _ (omega (arith, c.loop-row-test.true, c.deref-row-items.ensures.len))))

pub returns : goal.returns
returns c = λ b h. c.loop-row.invariant b h
