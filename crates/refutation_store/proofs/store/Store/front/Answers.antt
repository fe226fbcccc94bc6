use Rattle.std.proofs.Common.{◌∙◌}
use Rattle.refutation_store.proofs.Learnt.{blank_front, blank_more, begins}
use Rattle.refutation_store.proofs.store.Store.front.Goals as goal

pub invariant_of-result : goal.invariant_of-result
invariant_of-result c = blank_front _ _ c.loop-cell.invariant

pub loop-cell-preserved : goal.loop-cell-preserved
loop-cell-preserved c =
    blank_more c.deref-cell-items.result.now c.loop-cell.cell-index c.loop-cell.signs.items c.push.new.self.items c.sign_of.result c.cell-item.result c.loop-cell-test.true c.cell-item.is (c.sign_of.ensures.1 ∙ c.note-note.ensures.0)
    (c.sign_of.ensures.2 ∙ c.note-note.ensures.1) c.loop-cell.invariant c.in-Ok.ensures.items

pub returns : goal.returns
returns c = begins c.self.inside.cells.items c.deref-cell-items.result.now c.loop-cell.cell-index c.args.self.now c.loop-cell.signs.items c.loop-cell.invariant c.loop-cell-test.false c.deref-cell-items.ensures.value c.self.view_is
