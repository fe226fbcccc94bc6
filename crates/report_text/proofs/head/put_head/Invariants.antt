-- the lines of the first inputs are written
use Rattle.std.proofs.Common.{◌≡◌, ℕ, List, ◌++◌, take, flat_map}
use Rattle.std.specs.List.{enumerate_from, zip}
use Rattle.ot_base.specs.declared.tableau.InputRows.{InputRows}
use Rattle.ot_theory.specs.Problems.{Input}
use Rattle.report_text.specs.Reports as reports
use Rattle.report_text.proofs.head.put_head.Given as goal

abbrev pub input_lines : ℕ × (InputRows × Input) → List ℕ
input_lines (i, input) = reports.input_lines i input.0 input.1

abbrev pub invariant-loop-i : goal.invariant-loop-i
invariant-loop-i l = l.text ≡ l.initial.text ++ flat_map input_lines (enumerate_from 1 (take l.i (zip l.tableau.inputs l.problem.inputs)))
