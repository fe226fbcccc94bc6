use Rattle.std.proofs.Common.{◌≡◌, ◌+◌, map, fold}
use Rattle.std.specs.List.{enumerate_from}
use Rattle.tab_cells.specs.Cells.{text_of}
use Rattle.tableau_file.specs.Rows.{texts_of}
use Rattle.tableau_file.specs.Faults.{columns_used}
use Rattle.tableau_file.proofs.Names.{use_column}
use Rattle.tableau_file.proofs.header.columns_used.Given as goal

-- the columns that are left, behind those so far, give those used of all
abbrev pub invariant-loop-column : goal.invariant-loop-column
invariant-loop-column l = fold use_column l.used (enumerate_from (l.column-iterator.count + 1) (map text_of l.column-iterator.iter)) ≡ columns_used (texts_of l.line)
