use Rattle.std.proofs.Common.{◌≡◌, ◌+◌, false, drop}
use Rattle.std.specs.List.{list_any}
use Rattle.tab_cells.specs.Cells.{cells_of}
use Rattle.tableau_file.specs.Rows.{texts_of, is_empty, constraint_cells}
use Rattle.tableau_file.proofs.header.names_of.Given as goal

abbrev pub invariant-loop : goal.invariant-loop
invariant-loop l = record {
  cells : l.cells ≡ drop (3 + l.counter) (cells_of l.line);
  names : l.names ≡ constraint_cells l.counter (texts_of l.line);
  sound : list_any is_empty (constraint_cells l.counter (texts_of l.line)) ≡ false;
}
