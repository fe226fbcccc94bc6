use Rattle.std.proofs.Common.{◌∙◌, arith, sym}
use Rattle.tableau_file.proofs.Digits.{violation-single, value-single}
use Rattle.tableau_file.proofs.row.violation_in.Goals as goal

pub returns-in-len1-clause-sound : goal.returns-in-len1-clause-sound
returns-in-len1-clause-sound c = violation-single c.args.cell.now (omega arith) (omega arith) (omega arith)

pub returns-in-len1-clause-value : goal.returns-in-len1-clause-value
returns-in-len1-clause-value c = c.from.ensures ∙ sym (value-single c.args.cell.now (omega arith) (omega arith) (omega arith))
