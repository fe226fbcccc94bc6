use Rattle.std.proofs.Common.{◌≡◌, ◌++◌, length}
use Rattle.tab_cells.specs.Cells.{single_quotes}
use Rattle.tab_cells.proofs.texts.single_quotes.Given as goal

abbrev pub invariant-loop-first : goal.invariant-loop-first
invariant-loop-first l = l.singled ++ single_quotes l.rest ≡ single_quotes l.text

abbrev pub decreases-loop-first : goal.decreases-loop-first
decreases-loop-first l = length l.rest
