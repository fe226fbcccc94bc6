use Rattle.std.proofs.Common.{◌==◌, length, sym, ◌∙◌}
use Rattle.tableau_file.specs.declared.Why.TheVariants.{EmptyCandidate}
use Rattle.tableau_file.proofs.FirstFault.{first-fault}
use Rattle.tableau_file.proofs.row.Inputs.check_candidate.Goals as goal

pub returns-then-is_empty-clause-faults : goal.returns-then-is_empty-clause-faults
returns-then-is_empty-clause-faults c = first-fault (length c.args.text.now == 0) EmptyCandidate _ (sym c.is_empty.ensures ∙ c.if-is_empty.true)
