use Rattle.search_schedule.proofs.OneRun.{one-count, one-state}
use Rattle.search_schedule.proofs.laws.schedule_has_one_run.Goals as goal

pub returns-clause-state : goal.returns-clause-state
returns-clause-state c = one-state

pub returns-clause-learns : goal.returns-clause-learns
returns-clause-learns c = one-count
