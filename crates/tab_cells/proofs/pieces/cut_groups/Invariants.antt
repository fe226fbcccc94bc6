use Rattle.std.proofs.Common.{◌*◌}
use Rattle.tab_cells.proofs.Groups.{AreTaken}
use Rattle.tab_cells.proofs.pieces.cut_groups.Given as goal

abbrev pub invariant-loop-g : goal.invariant-loop-g
invariant-loop-g l = AreTaken l.line l.fn.numbers (8 * l.g) l.numbers
