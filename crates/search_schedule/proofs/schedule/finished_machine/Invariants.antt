-- The first steps of the schedule are made, and each one more lowers the weight of what waits.
use Rattle.search_schedule.proofs.Runs.{IsUnderWay}
use Rattle.search_schedule.proofs.Weights.{weight}
use Rattle.search_schedule.proofs.schedule.finished_machine.Given as goal

abbrev pub decreases-loop-step : goal.decreases-loop-step
decreases-loop-step l = weight l.machine.problem l.machine.places l.machine.state

abbrev pub invariant-loop-step : goal.invariant-loop-step
invariant-loop-step l = IsUnderWay l.p l.workers l.places l.number l.generator l.machine
