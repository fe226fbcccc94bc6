use Rattle.std.proofs.Common.{◌≡◌, ◌+◌, ◌++◌, ◌∷◌, [], ap, sym, ◌∙◌, arith}
use Rattle.tab_cells.specs.Cells.{cells_of}
use Rattle.tableau_file.specs.Rows.{texts_of, cell, is_empty, constraint_cells}
use Rattle.tableau_file.proofs.Names.{name_left, cells_next, empty_name, sound_more, constraint_cells_more}
use Rattle.tableau_file.proofs.header.names_of.Goals as goal

pub returns-then-is_empty-clause-fault : goal.returns-then-is_empty-clause-fault
returns-then-is_empty-clause-fault c why is =
    let k = c.loop.counter in
    let text = c.bytes.ensures ∙ c.in_ok-text.ensures.text ∙ name_left k (cells_of c.args.line.now) c.loop.cells c.loop.invariant.cells in
    ((cc), empty_name k c.args.n (texts_of c.args.line.now) (omega arith) (ap is_empty (sym text) ∙ sym c.is_empty.ensures ∙ c.if-is_empty.true))

pub loop-preserved : goal.loop-preserved
loop-preserved c =
    let k = c.loop.counter in
    let texts = texts_of c.args.line.now in
    let cells = cells_of c.args.line.now in
    let left = name_left k cells c.loop.cells c.loop.invariant.cells in
    let text = c.bytes.ensures ∙ c.in_ok-text.ensures.text ∙ left in
    let name : c.in_ok-of.field-0 ≡ cell texts (3 + k) = c.in_ok-of.ensures ∙ c.bytes-in-loop.ensures ∙ c.in_ok-text.ensures.text ∙ left in
    record {
      cells = cells_next k cells c.loop.cells c.next_text.new.cells c.loop.invariant.cells c.next_text.ensures.rest;
      names = c.in_ok-push.ensures.ok ∙ ap (λ names. names ++ c.in_ok-of.field-0 ∷ []) c.loop.invariant.names ∙ ap (λ name. constraint_cells k texts ++ name ∷ []) name ∙ sym (constraint_cells_more k texts);
      sound = sound_more k texts c.loop.invariant.sound (ap is_empty (sym text) ∙ sym c.is_empty.ensures ∙ c.if-is_empty.false);
    }
