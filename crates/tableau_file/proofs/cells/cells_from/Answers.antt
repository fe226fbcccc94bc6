use Rattle.std.proofs.Common.{drop, ap, ◌∙◌}
use Rattle.std.proofs.lemmas.List.{drop-drop}
use Rattle.tab_cells.specs.Cells.{cells_of}
use Rattle.tableau_file.proofs.Columns.{rest_next}
use Rattle.tableau_file.proofs.cells.cells_from.Goals as goal

pub loop-preserved : goal.loop-preserved
loop-preserved c =
    rest_next c.next.result c.loop.cells c.next.new.self c.next.ensures.steps
    ∙ ap (drop 1) c.loop.invariant
    ∙ drop-drop 1 c.loop.counter (cells_of c.args.line.now)
