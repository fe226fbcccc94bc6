-- each row so far is that of no choices
use Rattle.std.proofs.Common.{◌≡◌, [], length}
use Rattle.std.specs.Prelude.{All}
use Rattle.t_orders.specs.Rows.{IsRowOf}
use Rattle.t_orders.proofs.table.empty_table.Given as goal

abbrev pub invariant-loop : goal.invariant-loop
invariant-loop l = (length l.table.items ≡ l.counter) × All (IsRowOf [] l.inputs) l.table.items
