use Rattle.std.proofs.Common.{take, map}
use Rattle.once_cell.specs.Once.{cell_name}
use Rattle.refutation_store.proofs.Learnt.{AreBlank}
use Rattle.refutation_store.proofs.store.Store.front.Given as goal

abbrev pub invariant-loop-cell : goal.invariant-loop-cell
invariant-loop-cell l = AreBlank (map cell_name (take l.cell-index l.cell-items)) l.signs.items
