use Rattle.search_machine.proofs.OneAfter.{one-run}
use Rattle.search_machine.proofs.laws.steps_lead_to_one_state.Goals as goal

pub returns : goal.returns
returns c = one-run
