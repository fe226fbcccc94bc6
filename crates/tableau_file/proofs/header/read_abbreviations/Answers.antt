use Rattle.std.proofs.Common.{◌≡◌, ◌+◌, ◌++◌, ◌∷◌, [], not, length, take, ap, sym, ◌∙◌, arith}
use Rattle.std.specs.List.{list_any}
use Rattle.tab_cells.specs.Cells.{cells_of, text_of}
use Rattle.tableau_file.specs.Rows.{texts_of, cell, is_empty, constraint_cells, or_name}
use Rattle.tableau_file.specs.Faults.{fault}
use Rattle.tableau_file.specs.declared.Why.TheVariants.{ExtraCell}
use Rattle.tableau_file.proofs.Columns.{extra_after}
use Rattle.tableau_file.proofs.Names.{name_left, cells_next, each_or_name, or_name_more}
use Rattle.tableau_file.proofs.header.read_abbreviations.Goals as goal

pub returns-then-has_text-clause-fault : goal.returns-then-has_text-clause-fault
returns-then-has_text-clause-fault c why is =
    let told = c.has_text.ensures ∙ ap (list_any (λ cell. not (is_empty (text_of cell)))) c.cells_from.ensures ∙ extra_after (length c.args.names.now) (cells_of c.args.line.now) in
    let same : ExtraCell ≡ why = cc in
    ([], ap (λ extra. fault extra ExtraCell) (sym told ∙ c.if-has_text.true) ∙ ap (λ why. why ∷ []) same)

pub loop-name-preserved : goal.loop-name-preserved
loop-name-preserved c =
    let k = c.loop-name.name-index in
    let texts = texts_of c.args.line.now in
    let cells = cells_of c.args.line.now in
    let text : c.bytes.result.now ≡ cell texts (3 + k) = c.bytes.ensures ∙ c.in_ok-text.ensures.text ∙ name_left k cells c.loop-name.cells c.loop-name.invariant.cells in
    let added : c.in_ok-of.field-0 ≡ or_name (cell texts (3 + k)) c.name-item.result =
    c.in_ok-of.ensures ∙ c.or_name-abbreviation.ensures ∙ ap (λ text. or_name text c.bytes-in-loop-name.result.now) text ∙ ap (or_name (cell texts (3 + k))) c.bytes-in-loop-name.ensures in
    record {
      cells = cells_next k cells c.loop-name.cells c.next_text.new.cells c.loop-name.invariant.cells c.next_text.ensures.rest;
      abbreviations =
          c.in_ok-push.ensures.ok
          ∙ ap (λ abbreviations. abbreviations ++ c.in_ok-of.field-0 ∷ []) c.loop-name.invariant.abbreviations
          ∙ ap (λ abbreviation. each_or_name (constraint_cells k texts) (take k c.args.names.now) ++ abbreviation ∷ []) added
          ∙ sym (or_name_more k texts c.args.names.now c.name-item.result (omega arith) c.name-item.is);
    }

pub returns-clause-sound : goal.returns-clause-sound
returns-clause-sound c =
    let told = c.has_text.ensures ∙ ap (list_any (λ cell. not (is_empty (text_of cell)))) c.cells_from.ensures ∙ extra_after (length c.args.names.now) (cells_of c.args.line.now) in
    ap (λ extra. fault extra ExtraCell) (sym told ∙ c.if-has_text.false)
