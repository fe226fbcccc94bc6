use Rattle.std.proofs.Common.{◌≡◌, ◌∷◌, [], ap, sym, subst, ◌∙◌}
use Rattle.std.proofs.lemmas.Result.{err_from_is_err_and}
use Rattle.tab_cells.specs.Cells.{cells_of}
use Rattle.tableau_file.specs.Rows.{texts_of}
use Rattle.tableau_file.specs.Faults.{input_faults, row_faults, IsFirst}
use Rattle.tableau_file.proofs.Columns.{input_left, candidate_left, numbers_left}
use Rattle.tableau_file.proofs.FirstFault.{input_first, candidate_first, number_first, no_row_fault}
use Rattle.tableau_file.proofs.row.add_row.Goals as goal

pub returns-in_err-check_input-clause-fault : goal.returns-in_err-check_input-clause-fault
returns-in_err-check_input-clause-fault c = λ why e.
    let texts = texts_of c.args.line.now in
    let told = err_from_is_err_and c.from_residual-in_err-check_input.result c.from_residual-in_err-check_input.ensures.1 in
    let same : c.in_err-check_input.field-0.0 ≡ why = cc (told.1, told.2) in
    let input = c.bytes.ensures ∙ c.in_ok-input.ensures.text ∙ input_left _ c.args.line.now c.cells-cells.ensures.value in
    subst (λ fault. IsFirst fault (row_faults c.args.n c.args.inputs.now texts)) same
    (input_first c.args.n c.args.inputs.now texts c.bytes.result.now c.in_err-check_input.field-0.0 input c.in_err-check_input.ensures)

pub returns-in_err-check_candidate-clause-fault : goal.returns-in_err-check_candidate-clause-fault
returns-in_err-check_candidate-clause-fault c = λ why e.
    let texts = texts_of c.args.line.now in
    let told = err_from_is_err_and c.from_residual-in_err-check_candidate.result c.from_residual-in_err-check_candidate.ensures.1 in
    let same : c.in_err-check_candidate.field-0.0 ≡ why = cc (told.1, told.2) in
    let input = c.in_ok-input.ensures.text ∙ input_left _ c.args.line.now c.cells-cells.ensures.value in
    let text = c.in_ok-text.ensures.text ∙ candidate_left _ _ c.args.line.now c.cells-cells.ensures.value c.next_text.ensures.rest in
    let none = ap (λ text. input_faults c.args.inputs.now (text ∷ [])) (c.bytes-2.ensures ∙ sym c.bytes.ensures) ∙ c.in_ok-check_input.ensures in
    subst (λ fault. IsFirst fault (row_faults c.args.n c.args.inputs.now texts)) same
    (candidate_first c.args.n c.args.inputs.now texts c.bytes-2.result.now c.bytes-3.result.now c.in_err-check_candidate.field-0.0 (c.bytes-2.ensures ∙ input) (c.bytes-3.ensures ∙ text) none c.in_err-check_candidate.ensures.faults)

pub returns-in_err-count-clause-fault : goal.returns-in_err-count-clause-fault
returns-in_err-count-clause-fault c = λ why e.
    let told = err_from_is_err_and c.from_residual-in_err-count.result c.from_residual-in_err-count.ensures.1 in
    let input = c.in_ok-input.ensures.text ∙ input_left _ c.args.line.now c.cells-cells.ensures.value in
    let text = c.in_ok-text.ensures.text ∙ candidate_left _ _ c.args.line.now c.cells-cells.ensures.value c.next_text.ensures.rest in
    let left = numbers_left _ _ _ c.args.line.now c.cells-cells.ensures.value c.next_text.ensures.rest c.next_text-2.ensures.rest in
    let none = ap (λ text. input_faults c.args.inputs.now (text ∷ [])) (c.bytes-2.ensures ∙ sym c.bytes.ensures) ∙ c.in_ok-check_input.ensures in
    number_first c.args.n c.args.inputs.now (texts_of c.args.line.now) c.bytes-2.result.now c.bytes-3.result.now why (c.bytes-2.ensures ∙ input) (c.bytes-3.ensures ∙ text) none
    c.in_ok-check_candidate.ensures.faults
    (c.in_err-count.ensures.fault why (cc (told.1, told.2)) (cells_of c.args.line.now) left)

pub returns-clause-sound : goal.returns-clause-sound
returns-clause-sound c =
    let input = c.in_ok-input.ensures.text ∙ input_left _ c.args.line.now c.cells-cells.ensures.value in
    let text = c.in_ok-text.ensures.text ∙ candidate_left _ _ c.args.line.now c.cells-cells.ensures.value c.next_text.ensures.rest in
    let left = numbers_left _ _ _ c.args.line.now c.cells-cells.ensures.value c.next_text.ensures.rest c.next_text-2.ensures.rest in
    let none = ap (λ text. input_faults c.args.inputs.now (text ∷ [])) (c.bytes-2.ensures ∙ sym c.bytes.ensures) ∙ c.in_ok-check_input.ensures in
    no_row_fault c.args.n c.args.inputs.now (texts_of c.args.line.now) c.bytes-2.result.now c.bytes-3.result.now (c.bytes-2.ensures ∙ input) (c.bytes-3.ensures ∙ text) none
    c.in_ok-check_candidate.ensures.faults
    (c.in_ok-count.ensures.sound (cells_of c.args.line.now) left)
