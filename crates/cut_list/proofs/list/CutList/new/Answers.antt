use Rattle.std.proofs.Common.{arith, refl}
use Rattle.cut_list.specs.Changed.{cuts_by, last_by}
use Rattle.cut_list.proofs.list.CutList.new.Goals as goal

pub invariant_of-result : goal.invariant_of-result
unfolding last_by
invariant_of-result c = rw (c.new-2.ensures.items, c.new.ensures.items, c.new-3.ensures.items) (record { within = λ k d below. absurd (omega (arith, below)); last = refl })

pub returns : goal.returns
unfolding cuts_by
returns c = rw (c.new.ensures.items) refl
