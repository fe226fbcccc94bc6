use Rattle.std.proofs.Common.{arith}
use Rattle.std.proofs.lemmas.List.{length-map}
use Rattle.erc_vectors.specs.declared.condition.ConId.{ConId}
use Rattle.erc_vectors.proofs.Written.{IsFront-written}
use Rattle.erc_vectors.proofs.order.Order.of.Goals as goal

pub invariant_of-result : goal.invariant_of-result
invariant_of-result c =
    let f = IsFront-written _ _ _ _ _ (length-map c.args.list.now (λ (x : ConId). x.0)) (omega arith) c.put_numbers.ensures in
    (f.padded, rw f.front (c.is_ranking.ensures.0 c.if-not-is_ranking.false))
