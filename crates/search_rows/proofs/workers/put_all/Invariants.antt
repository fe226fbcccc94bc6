-- the misses stay
use Rattle.std.proofs.Common.{◌≡◌}
use Rattle.search_rows.proofs.workers.put_all.Given as goal

abbrev pub invariant-loop-prefix : goal.invariant-loop-prefix
invariant-loop-prefix l = l.seat.misses ≡ l.initial.seat.misses

abbrev pub invariant-loop-class : goal.invariant-loop-class
invariant-loop-class l = l.seat.misses ≡ l.initial.seat.misses
