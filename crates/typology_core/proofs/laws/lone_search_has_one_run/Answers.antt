use Rattle.typology_core.proofs.LoneRuns.{one-lone-count, one-lone-state}
use Rattle.typology_core.proofs.laws.lone_search_has_one_run.Goals as goal

pub returns-clause-state : goal.returns-clause-state
returns-clause-state c = one-lone-state

pub returns-clause-learns : goal.returns-clause-learns
returns-clause-learns c = one-lone-count
