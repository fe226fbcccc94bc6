use Rattle.std.proofs.Common.{◌≡◌, ◌+◌, map, take, drop}
use Rattle.std.specs.List.{zip}
use Rattle.tab_cells.specs.Cells.{cells_of}
use Rattle.tableau_file.specs.Rows.{texts_of, constraint_cells, or_name}
use Rattle.tableau_file.proofs.header.read_abbreviations.Given as goal

abbrev pub invariant-loop-name : goal.invariant-loop-name
invariant-loop-name l = record {
  cells : l.cells ≡ drop (3 + l.name-index) (cells_of l.line);
  abbreviations : l.abbreviations ≡ map (λ pair. or_name pair.0 pair.1) (zip (constraint_cells l.name-index (texts_of l.line)) (take l.name-index l.names));
}
