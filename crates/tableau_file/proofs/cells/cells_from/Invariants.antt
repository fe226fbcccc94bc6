use Rattle.std.proofs.Common.{◌≡◌, drop}
use Rattle.tab_cells.specs.Cells.{cells_of}
use Rattle.tableau_file.proofs.cells.cells_from.Given as goal

abbrev pub invariant-loop : goal.invariant-loop
invariant-loop l = l.cells ≡ drop l.counter (cells_of l.line)
