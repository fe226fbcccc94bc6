-- nothing is seen so far
use Rattle.t_orders.proofs.Tables.{IsBlank}
use Rattle.t_orders.proofs.row.Row.new.Given as goal

abbrev pub invariant-loop : goal.invariant-loop
invariant-loop l = IsBlank l.counter l.seen.items
