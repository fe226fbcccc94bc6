-- those so far
use Rattle.std.proofs.Common.{◌≡◌, ◌≤◌}
use Rattle.std.specs.Prelude.{count_by}
use Rattle.ot_theory.specs.Rankings.{numbers_below}
use Rattle.search_machine.specs.Machine.{is_filled}
use Rattle.search_schedule.proofs.choosing.filled_queues.Given as goal

abbrev pub invariant-loop-v : goal.invariant-loop-v
invariant-loop-v l = record {
  counted : l.filled ≡ count_by (is_filled l.machine.state.queues) (numbers_below l.v);
  few : l.filled ≤ l.v;
}
