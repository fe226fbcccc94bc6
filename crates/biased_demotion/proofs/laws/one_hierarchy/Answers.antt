use Rattle.biased_demotion.proofs.Unique.{one_next, one_hierarchy}
use Rattle.biased_demotion.proofs.laws.one_hierarchy.Goals as goal

pub returns-clause-next : goal.returns-clause-next
returns-clause-next c = one_next

pub returns-clause-hierarchy : goal.returns-clause-hierarchy
returns-clause-hierarchy c = one_hierarchy
