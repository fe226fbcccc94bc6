use Rattle.std.proofs.Common.{ℕ, arith, refl}
use Rattle.std.specs.Prelude.{bit_and, bit_or}
use Rattle.std.specs.Int.{bit_not, w64}
use Rattle.std.proofs.lemmas.Nat.{and_le_l}
use Rattle.biased_demotion.proofs.Stratum.{AreMasksOf-given, IsStratum-markedness, IsStratum-all, IsStratum-one, IsStratum-active}
use Rattle.biased_demotion.proofs.next.next_stratum.Goals as goal

pub returns-then-free_markedness-ne0 : goal.returns-then-free_markedness-ne0
returns-then-free_markedness-ne0 c =
    let masks = AreMasksOf-given c.args.faith.now c.args.levels.now c.args.set.now c.kinds_of-kinds.result.faithfulness c.kinds_of-kinds.result.markedness c.placed_in-placed.result c.open_marks-open.result.losses c.open_marks-open.result.wins c.requires.small c.requires.same c.requires.widths c.kinds_of-kinds.ensures.faithfulness c.kinds_of-kinds.ensures.markedness
    c.placed_in-placed.ensures c.open_marks-open.ensures.losses c.open_marks-open.ensures.wins (omega arith) (omega arith) in
    let s = IsStratum-markedness _ _ _ _ _ _ _ _ masks _ refl (omega (arith, and_le_l c.kinds_of-kinds.result.markedness (bit_not w64 (bit_or c.placed_in-placed.result c.open_marks-open.result.losses)))) c.if-free_markedness-ne0.true in
    record { next = s.next; free = s.free; none = s.none }

pub returns-then-active-eq0 : goal.returns-then-active-eq0
returns-then-active-eq0 c =
    let masks = AreMasksOf-given c.args.faith.now c.args.levels.now c.args.set.now c.kinds_of-kinds.result.faithfulness c.kinds_of-kinds.result.markedness c.placed_in-placed.result c.open_marks-open.result.losses c.open_marks-open.result.wins c.requires.small c.requires.same c.requires.widths c.kinds_of-kinds.ensures.faithfulness c.kinds_of-kinds.ensures.markedness
    c.placed_in-placed.ensures c.open_marks-open.ensures.losses c.open_marks-open.ensures.wins (omega arith) (omega arith) in
    let s = IsStratum-all _ _ _ _ _ _ _ _ masks _ _ _ refl c.if-free_markedness-ne0.false refl refl c.if-active-eq0.true (omega (arith, and_le_l c.kinds_of-kinds.result.faithfulness (bit_not w64 (bit_or c.placed_in-placed.result c.open_marks-open.result.losses)))) in
    record { next = s.next; free = s.free; none = s.none }

pub returns-in-Some : goal.returns-in-Some
returns-in-Some c =
    let masks = AreMasksOf-given c.args.faith.now c.args.levels.now c.args.set.now c.kinds_of-kinds.result.faithfulness c.kinds_of-kinds.result.markedness c.placed_in-placed.result c.open_marks-open.result.losses c.open_marks-open.result.wins c.requires.small c.requires.same c.requires.widths c.kinds_of-kinds.ensures.faithfulness c.kinds_of-kinds.ensures.markedness
    c.placed_in-placed.ensures c.open_marks-open.ensures.losses c.open_marks-open.ensures.wins (omega arith) (omega arith) in
    let s = IsStratum-one _ _ _ _ _ _ _ _ masks _ _ _ _ _ c.bit_of.ensures refl c.if-free_markedness-ne0.false refl refl c.in-Some.ensures.some in
    record { next = s.next; free = s.free; none = s.none }

pub returns-in-None : goal.returns-in-None
returns-in-None c =
    let masks = AreMasksOf-given c.args.faith.now c.args.levels.now c.args.set.now c.kinds_of-kinds.result.faithfulness c.kinds_of-kinds.result.markedness c.placed_in-placed.result c.open_marks-open.result.losses c.open_marks-open.result.wins c.requires.small c.requires.same c.requires.widths c.kinds_of-kinds.ensures.faithfulness c.kinds_of-kinds.ensures.markedness
    c.placed_in-placed.ensures c.open_marks-open.ensures.losses c.open_marks-open.ensures.wins (omega arith) (omega arith) in
    let free : ℕ = bit_not w64 (bit_or c.placed_in-placed.result c.open_marks-open.result.losses) in
    let s = IsStratum-active _ _ _ _ _ _ _ _ masks _ _ _ refl c.if-free_markedness-ne0.false refl refl (omega (arith, and_le_l c.kinds_of-kinds.result.faithfulness free, and_le_l (bit_and c.kinds_of-kinds.result.faithfulness free) c.open_marks-open.result.wins)) c.if-active-eq0.false c.in-None.ensures.none in
    record { next = s.next; free = s.free; none = s.none }
