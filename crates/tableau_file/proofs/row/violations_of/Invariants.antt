use Rattle.std.proofs.Common.{◌≡◌, true, drop, map}
use Rattle.std.specs.List.{list_all, range_with_len}
use Rattle.tab_cells.specs.Cells.{text_of}
use Rattle.tableau_file.specs.Numbers.{value_of, is_violation}
use Rattle.tableau_file.specs.Rows.{cell}
use Rattle.tableau_file.proofs.row.violations_of.Given as goal

abbrev pub invariant-loop : goal.invariant-loop
invariant-loop l = record {
  cells : l.cells ≡ drop l.counter l.fn.cells;
  violations : l.violations ≡ map value_of (map (cell (map text_of l.fn.cells)) (range_with_len 0 l.counter));
  sound : list_all is_violation (map (cell (map text_of l.fn.cells)) (range_with_len 0 l.counter)) ≡ true;
}
