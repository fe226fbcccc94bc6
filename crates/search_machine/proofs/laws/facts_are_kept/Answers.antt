use Rattle.search_machine.proofs.Leading.{reached-kept}
use Rattle.search_machine.proofs.laws.facts_are_kept.Goals as goal

pub returns : goal.returns
returns c = reached-kept
