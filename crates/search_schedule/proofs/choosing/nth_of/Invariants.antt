-- those before the place are passed
use Rattle.std.proofs.Common.{◌≡◌, ◌+◌, length, take}
use Rattle.std.specs.Prelude.{count_by}
use Rattle.search_machine.specs.Machine.{is_enabled}
use Rattle.search_schedule.specs.Schedules.{steps_of}
use Rattle.search_schedule.proofs.choosing.nth_of.Given as goal

abbrev pub invariant-loop-k : goal.invariant-loop-k
invariant-loop-k l = l.place ≡ count_by (is_enabled l.machine.state) (take l.k (steps_of (length l.machine.state.hands) l.w)) + l.left
