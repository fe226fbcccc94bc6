use Rattle.std.proofs.Common.{◌≡◌}
use Rattle.search_rows.proofs.stores.keep_many.Given as goal

abbrev pub invariant-loop-k : goal.invariant-loop-k
invariant-loop-k l = l.front.store ≡ l.store
