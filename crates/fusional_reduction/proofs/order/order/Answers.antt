use Rattle.std.proofs.Common.{arith}
use Rattle.fusional_reduction.proofs.OrderOfMarks.{order-end}
use Rattle.fusional_reduction.proofs.order.order.Goals as goal

pub returns : goal.returns
returns c = let e = order-end c.args.a.now c.args.b.now c.loop-k.k (omega arith) in cc
