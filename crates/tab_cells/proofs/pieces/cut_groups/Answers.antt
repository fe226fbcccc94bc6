use Rattle.std.proofs.Common.{◌+◌, ◌*◌, arith, refl}
use Rattle.tab_cells.proofs.Groups.{pairs-taken}
use Rattle.tab_cells.proofs.pieces.cut_groups.Goals as goal

pub loop-g-preserved : goal.loop-g-preserved
loop-g-preserved c =
    let k = 8 * c.loop-g.g in
    pairs-taken c.args.line.now c.args.numbers.now c.pairs_at-pairs.result c.loop-g.numbers k (8 * (c.loop-g.g + 1)) _ (λ x. refl) c.pairs_at-pairs.ensures.lanes (omega arith) c.loop-g.invariant
    (omega (arith, c.loop-g-test.true, c.min-groups.ensures)) (omega (arith, c.loop-g-test.true, c.min-groups.ensures))
    (λ i. (c.type_inv.line i).fits) c.pairs_at-pairs.ensures.values (c.are_digits.ensures c.if-not-are_digits.false)
