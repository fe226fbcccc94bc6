-- those of the workers before are passed
use Rattle.std.proofs.Common.{◌≡◌, ◌+◌, length, flat_map}
use Rattle.ot_theory.specs.Rankings.{numbers_below}
use Rattle.search_schedule.specs.Schedules.{enabled_of}
use Rattle.search_schedule.proofs.choosing.nth_enabled.Given as goal

abbrev pub invariant-loop-w : goal.invariant-loop-w
invariant-loop-w l = l.place ≡ length (flat_map (enabled_of l.machine.state) (numbers_below l.w)) + l.left
