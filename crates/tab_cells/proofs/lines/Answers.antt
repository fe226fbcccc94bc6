use Rattle.tab_cells.proofs.FirstLine.{length-lines_of-le}
use Rattle.tab_cells.proofs.lines.Goals as goal

pub returns-clause-few : goal.returns-clause-few
returns-clause-few c = rw c.of.ensures (length-lines_of-le c.args.bytes.now)
