-- the constraints of the strata so far are written
use Rattle.std.proofs.Common.{◌≡◌, map, take, length}
use Rattle.ot_theory.proofs.Orders.{order_to}
use Rattle.demotion.proofs.order.order_of.Given as goal

abbrev pub invariant-loop-above : goal.invariant-loop-above
invariant-loop-above l = record {
  count : l.placed ≡ length (order_to l.s l.above);
  numbers : map (λ c. c.0) (take l.placed l.list) ≡ order_to l.s l.above;
}
