use Rattle.std.proofs.Common.{◌≡◌, length}
use Rattle.refutation_store.proofs.store.Store.new.Given as goal

abbrev pub invariant-loop : goal.invariant-loop
invariant-loop l = length l.cells.items ≡ l.counter
