use Rattle.std.proofs.Common.{◌+◌, ◌≤◌, map, length}
use Rattle.tableau_file.specs.declared.limits.TheConstants.{FILE_LIMIT}
use Rattle.tableau_file.specs.Rows.{texts_of, rows_from}
use Rattle.tableau_file.proofs.GivenRefusals.{Leaves}
use Rattle.tableau_file.proofs.given.read_pairs.Given as goal

abbrev pub invariant-loop-line : goal.invariant-loop-line
invariant-loop-line l = record {
  few : l.number + length l.line-iterator ≤ FILE_LIMIT + 1;
  left : Leaves l.t l.pairs (rows_from l.number (map texts_of l.line-iterator)) (rows_from 1 (map texts_of l.fn.lines));
}
