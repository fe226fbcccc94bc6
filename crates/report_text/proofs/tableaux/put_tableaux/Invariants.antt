-- the tableaux of the first inputs are written
use Rattle.std.proofs.Common.{◌≡◌, ℕ, List, [], ◌++◌, take, flat_map}
use Rattle.std.specs.List.{enumerate_from, zip}
use Rattle.std.specs.Option.{option_map_or}
use Rattle.ot_base.specs.declared.tableau.InputRows.{InputRows}
use Rattle.ot_theory.specs.Problems.{Input}
use Rattle.report_text.specs.Reports.{tableau_lines}
use Rattle.report_text.proofs.tableaux.put_tableaux.Given as goal

abbrev pub lines_of_winner : List ℕ → ℕ × (InputRows × Input) → List ℕ
lines_of_winner order (i, input) = option_map_or (tableau_lines order i input.0 input.1.classes) input.1.winner []

abbrev pub invariant-loop-i : goal.invariant-loop-i
invariant-loop-i l = l.text ≡ l.initial.text ++ flat_map (lines_of_winner l.order) (enumerate_from 1 (take l.i (zip l.tableau.inputs l.problem.inputs)))
