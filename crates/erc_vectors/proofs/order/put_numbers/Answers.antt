use Rattle.std.proofs.Common.{arith}
use Rattle.erc_vectors.specs.declared.condition.ConId.{ConId}
use Rattle.erc_vectors.proofs.Written.{written-more}
use Rattle.erc_vectors.proofs.order.put_numbers.Goals as goal

pub loop-k-preserved : goal.loop-k-preserved
loop-k-preserved c = written-more (λ (x : ConId). x.0) _ _ _ _ _ 0 (omega arith) (omega arith) c.loop-k.invariant
