use Rattle.std.proofs.Common.{arith}
use Rattle.biased_demotion.proofs.Freed.{freed-ones}
use Rattle.biased_demotion.proofs.next.freed_by.Goals as goal

pub returns : goal.returns
returns c = freed-ones _ _ _ _ _ _ c.bit_of.ensures (omega arith) (omega arith) (omega arith) (omega arith) c.open_marks-open.ensures.losses
