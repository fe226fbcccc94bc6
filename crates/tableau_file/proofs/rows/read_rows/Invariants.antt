use Rattle.std.proofs.Common.{◌+◌, ◌≤◌, map, length}
use Rattle.tableau_file.specs.declared.limits.TheConstants.{FILE_LIMIT}
use Rattle.tableau_file.specs.Rows.{texts_of, rows_from}
use Rattle.tableau_file.proofs.RowRefusals.{LeavesAll}
use Rattle.tableau_file.proofs.rows.read_rows.Given as goal

abbrev pub invariant-loop-line : goal.invariant-loop-line
invariant-loop-line l = record {
  few : l.number + length l.line-iterator ≤ FILE_LIMIT + 3;
  left : LeavesAll l.n l.inputs l.number (map texts_of l.line-iterator) (rows_from 3 (map texts_of l.fn.lines));
}
