use Rattle.std.proofs.Common.{◌≡◌, map, ap, sym, subst, ◌∙◌}
use Rattle.std.specs.List.{range_with_len}
use Rattle.std.proofs.lemmas.Result.{err_from_is_err_and}
use Rattle.tab_cells.specs.Cells.{text_of}
use Rattle.tableau_file.specs.declared.Why.TheVariants.{BadCount, ExtraCell}
use Rattle.tableau_file.specs.Numbers.{value_of, is_count, billionths}
use Rattle.tableau_file.specs.Rows.{cell}
use Rattle.tableau_file.specs.Faults.{number_faults, IsFirst}
use Rattle.tableau_file.proofs.Columns.{third_left, fourth_left, constraints_left, extra_left}
use Rattle.tableau_file.proofs.FirstFault.{count_first, violation_first, extra_first, no_number_fault}
use Rattle.tableau_file.proofs.row.numbers_of.Goals as goal

pub returns-in_default-clause-fault : goal.returns-in_default-clause-fault
returns-in_default-clause-fault c = λ why e all is.
    let texts = map text_of all in
    let same : BadCount ≡ why = cc in
    let text = c.bytes.ensures ∙ c.in_ok-text.ensures.text ∙ third_left c.args.cells all is in
    let wrong = sym (ap is_count text) ∙ c.in_default.ensures.none in
    subst (λ fault. IsFirst fault (number_faults c.args.n texts)) same (count_first c.args.n texts wrong)

pub returns-in_err-violations-clause-fault : goal.returns-in_err-violations-clause-fault
returns-in_err-violations-clause-fault c = λ why e all is.
    let texts = map text_of all in
    let told = err_from_is_err_and c.from_residual-in_err-violations.result c.from_residual-in_err-violations.ensures.1 in
    let fault = c.in_err-violations.ensures.fault why (cc (told.1, told.2)) in
    let text = c.bytes.ensures ∙ c.in_ok-text.ensures.text ∙ third_left c.args.cells all is in
    let count = sym (ap is_count text) ∙ c.in-Some.ensures.some.0 in
    let left = fourth_left c.args.cells c.next_text.new.cells all is c.next_text.ensures.rest in
    let wrong = rw (left, constraints_left c.args.n all) at fault.1 in
    subst (λ fault. IsFirst fault (number_faults c.args.n texts)) (sym fault.0) (violation_first c.args.n texts count wrong)

pub returns-then-has_text-clause-fault : goal.returns-then-has_text-clause-fault
returns-then-has_text-clause-fault c = λ why e all is.
    let texts = map text_of all in
    let same : ExtraCell ≡ why = cc in
    let text = c.bytes.ensures ∙ c.in_ok-text.ensures.text ∙ third_left c.args.cells all is in
    let count = sym (ap is_count text) ∙ c.in-Some.ensures.some.0 in
    let left = fourth_left c.args.cells c.next_text.new.cells all is c.next_text.ensures.rest in
    let right = rw (left, constraints_left c.args.n all) at c.in_ok-violations.ensures.sound in
    let extra = rw (c.in_ok-violations.ensures.rest, left, extra_left c.args.n all) at c.has_text.ensures in
    subst (λ fault. IsFirst fault (number_faults c.args.n texts)) same (extra_first c.args.n texts count right (sym extra ∙ c.if-has_text.true))

pub returns-clause-sound : goal.returns-clause-sound
returns-clause-sound c = λ all is.
    let texts = map text_of all in
    let text = c.bytes.ensures ∙ c.in_ok-text.ensures.text ∙ third_left c.args.cells all is in
    let count = sym (ap is_count text) ∙ c.in-Some.ensures.some.0 in
    let left = fourth_left c.args.cells c.next_text.new.cells all is c.next_text.ensures.rest in
    let right = rw (left, constraints_left c.args.n all) at c.in_ok-violations.ensures.sound in
    let extra = rw (c.in_ok-violations.ensures.rest, left, extra_left c.args.n all) at c.has_text.ensures in
    no_number_fault c.args.n texts count right (sym extra ∙ c.if-has_text.false)

pub returns-clause-count : goal.returns-clause-count
returns-clause-count c = λ all is.
    let text = c.bytes.ensures ∙ c.in_ok-text.ensures.text ∙ third_left c.args.cells all is in
    c.in-Some.ensures.some.1 ∙ ap billionths text

pub returns-clause-violations : goal.returns-clause-violations
returns-clause-violations c = λ all is.
    let left = fourth_left c.args.cells c.next_text.new.cells all is c.next_text.ensures.rest in
    c.in_ok-violations.ensures.violations
    ∙ ap (map value_of) (ap (λ cells. map (cell (map text_of cells)) (range_with_len 0 c.args.n)) left ∙ constraints_left c.args.n all)
