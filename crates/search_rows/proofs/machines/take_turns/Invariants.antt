-- the problem stays
use Rattle.std.proofs.Common.{◌≡◌}
use Rattle.search_rows.proofs.machines.take_turns.Given as goal

abbrev pub invariant-loop : goal.invariant-loop
invariant-loop l = l.machine.problem ≡ l.initial.machine.problem
