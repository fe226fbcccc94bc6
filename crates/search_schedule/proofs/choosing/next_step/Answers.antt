-- A draw below the number of the enabled steps is a place among them.
use Rattle.std.proofs.Common.{arith}
use Rattle.search_schedule.specs.Schedules.{enabled_steps}
use Rattle.search_schedule.proofs.Places.{some-there}
use Rattle.search_schedule.proofs.choosing.next_step.Goals as goal

pub returns-clause-ended : goal.returns-clause-ended
returns-clause-ended c = some-there _ (enabled_steps c.args.machine.now.state) c.below-place.result c.nth_enabled.result c.nth_enabled.ensures.step (omega (arith, c.below-place.ensures.below, c.enabled_steps-enabled.ensures.count))

pub returns-clause-empty : goal.returns-clause-empty
returns-clause-empty c = some-there _ (enabled_steps c.args.machine.now.state) c.below-place.result c.nth_enabled.result c.nth_enabled.ensures.step (omega (arith, c.below-place.ensures.below, c.enabled_steps-enabled.ensures.count))
