use Rattle.std.proofs.Common.{w8, ◌*◌}
use Rattle.std.proofs.lemmas.Simd.{chunk-fits, below_from_Fits}
use Rattle.tab_cells.proofs.Groups.{lane-pair_of}
use Rattle.tab_cells.proofs.pieces.pairs_at.Goals as goal

pub returns-clause-values : goal.returns-clause-values
returns-clause-values c j below =
    lane-pair_of c.args.line.now c.args.k j c.requires below
    (below_from_Fits w8 _ (chunk-fits w8 (2 * c.args.k) 16 c.args.line.now c.type_inv.line))
