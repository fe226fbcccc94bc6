use Rattle.search_schedule.proofs.OneRun.{run-leads}
use Rattle.search_schedule.proofs.laws.schedule_is_a_run.Goals as goal

pub returns : goal.returns
returns c = run-leads
