-- the lines of the first classes are written
use Rattle.std.proofs.Common.{◌≡◌, ℕ, List, ◌++◌, take, flat_map}
use Rattle.std.specs.List.{enumerate_from}
use Rattle.ot_base.specs.declared.tableau.InputRows.{InputRows}
use Rattle.ot_theory.specs.Languages.{classes_at}
use Rattle.report_text.specs.Reports as reports
use Rattle.report_text.proofs.head.put_input.Given as goal

abbrev pub class_line : ℕ → InputRows → ℕ × List ℕ → List ℕ
class_line i rows (a, profile) = reports.class_line i rows a profile

abbrev pub invariant-loop-a : goal.invariant-loop-a
invariant-loop-a l =
    l.text ≡ l.initial.text ++ flat_map (class_line l.number l.rows) (enumerate_from 1 (take l.a (classes_at l.problem l.i.0)))
