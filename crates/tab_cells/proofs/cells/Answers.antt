use Rattle.tab_cells.proofs.FirstCell.{length-cells_of-le}
use Rattle.tab_cells.proofs.cells.Goals as goal

pub returns-clause-few : goal.returns-clause-few
returns-clause-few c = rw c.of.ensures (length-cells_of-le c.args.line.now)
