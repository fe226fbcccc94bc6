use Rattle.std.proofs.Common.{◌≡◌, ◌∷◌, ◌++◌, [], true, drop, length, map, ap, sym, refl, ◌∙◌, arith}
use Rattle.std.specs.List.{list_all, range_with_len}
use Rattle.std.proofs.lemmas.List.{drop-drop, map_push}
use Rattle.std.proofs.lemmas.List.Folds.{list_all-append}
use Rattle.std.proofs.lemmas.Result.{err_from_is_err_and}
use Rattle.tab_cells.specs.Cells.{text_of}
use Rattle.tableau_file.specs.Numbers.{value_of, is_violation}
use Rattle.tableau_file.specs.Rows.{cell}
use Rattle.tableau_file.proofs.Columns.{first_left, columns_more, fails-column}
use Rattle.tableau_file.proofs.Digits.{digits-are_values, digits-are_violations}
use Rattle.tableau_file.proofs.row.violations_of.Goals as goal

pub loop-init : goal.loop-init
loop-init c =
    let list = c.in_ok-violations.violations in
    let columns = map (cell (map text_of c.args.cells.now)) in
    record {
      cells = c.in_ok-violations.ensures.rest ∙ ap (λ t. drop t c.args.cells.now) (sym c.len-taken.ensures);
      violations =
          c.in_ok-violations.ensures.numbers
          ∙ digits-are_values (length list) c.args.cells.now c.in_ok-violations.ensures.digits
          ∙ ap (λ t. map value_of (columns (range_with_len 0 t))) (sym c.len-taken.ensures);
      sound =
          ap (λ t. list_all is_violation (columns (range_with_len 0 t))) c.len-taken.ensures
          ∙ digits-are_violations (length list) c.args.cells.now c.in_ok-violations.ensures.digits;
    }

pub loop-preserved : goal.loop-preserved
loop-preserved c =
    let k = c.loop.counter in
    let texts = map text_of c.args.cells.now in
    let text = ap (λ cells. cell (map text_of cells) 0) c.loop.invariant.cells ∙ first_left k c.args.cells.now in
    let violation : is_violation (cell texts k) ≡ true = ap is_violation (sym text) ∙ c.in_ok-violation.ensures.sound in
    let value : c.in_ok-violation.violation ≡ value_of (cell texts k) = c.in_ok-violation.ensures.value ∙ ap value_of text in
    let before = map (cell texts) (range_with_len 0 k) in
    record {
      cells = c.next_violation.ensures.rest ∙ ap (drop 1) c.loop.invariant.cells ∙ drop-drop 1 k c.args.cells.now;
      violations =
          c.in_ok-push.ensures.ok
          ∙ ap (λ list. list ++ c.in_ok-violation.violation ∷ []) c.loop.invariant.violations
          ∙ ap (λ number. map value_of before ++ number ∷ []) value
          ∙ sym (ap (map value_of) (columns_more k texts) ∙ map_push value_of before (cell texts k));
      sound =
          ap (list_all is_violation) (columns_more k texts)
          ∙ list_all-append is_violation before (cell texts k ∷ [])
          ∙ rw (c.loop.invariant.sound, violation) refl;
    }

pub returns-in_err-violation-clause-fault : goal.returns-in_err-violation-clause-fault
returns-in_err-violation-clause-fault c = λ why e.
    let texts = map text_of c.args.cells.now in
    let text = ap (λ cells. cell (map text_of cells) 0) c.loop.invariant.cells ∙ first_left c.loop.counter c.args.cells.now in
    let told = err_from_is_err_and c.from_residual-in_err-violation.result c.from_residual-in_err-violation.ensures.1 in
    let fault = c.in_err-violation.ensures.fault why (cc (told.1, told.2)) in
    (fault.0, fails-column is_violation c.loop.counter c.args.n texts (omega arith) (ap is_violation (sym text) ∙ fault.1))
