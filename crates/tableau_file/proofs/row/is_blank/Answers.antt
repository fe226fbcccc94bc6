use Rattle.tab_cells.specs.Cells.{cells_of}
use Rattle.tableau_file.proofs.Columns.{blank_texts}
use Rattle.tableau_file.proofs.row.is_blank.Goals as goal

pub returns : goal.returns
returns c = rw (c.has_text.ensures, c.cells.ensures.value) (blank_texts (cells_of c.args.line.now))
