use Rattle.typology_core.proofs.LoneRuns.{lone-leads}
use Rattle.typology_core.proofs.laws.lone_search_is_a_run.Goals as goal

pub returns : goal.returns
returns c = lone-leads
