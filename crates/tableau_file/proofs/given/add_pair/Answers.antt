use Rattle.std.proofs.Common.{◌≡◌, length, arith, ap, sym, subst, ◌∙◌}
use Rattle.std.proofs.lemmas.Result.{err_from_is_err_and}
use Rattle.tableau_file.specs.declared.given.GivenWhy.TheVariants.{SameConstraint, ExtraCell, TooManyPairs}
use Rattle.tableau_file.specs.Rows.{texts_of}
use Rattle.tableau_file.specs.Faults.{IsFirst}
use Rattle.tableau_file.specs.Given.{name_faults, pair_faults}
use Rattle.tableau_file.proofs.Columns.{input_left, candidate_left, extra_second}
use Rattle.tableau_file.proofs.GivenRefusals.{upper-first, lower-first, are_named, same-first, extra-first, many-first, no-fault}
use Rattle.tableau_file.proofs.given.add_pair.Goals as goal

pub returns-in_err-above-clause-fault : goal.returns-in_err-above-clause-fault
returns-in_err-above-clause-fault c why is =
    let cells = texts_of c.args.line.now in
    let upper = c.bytes.ensures ∙ c.in_ok-upper.ensures.text ∙ input_left _ c.args.line.now c.cells-cells.ensures.value in
    let from = err_from_is_err_and c.from_residual-in_err-above.result c.from_residual-in_err-above.ensures.1 in
    let told : c.in_err-above.field-0.0 ≡ why = cc (from.1, from.2) in
    subst (λ w. IsFirst w (pair_faults c.args.t.now (length c.args.pairs.now) cells)) told
    (upper-first c.args.t.now (length c.args.pairs.now) cells c.bytes.result.now c.in_err-above.field-0.0 upper c.in_err-above.ensures.faults)

pub returns-in_err-below-clause-fault : goal.returns-in_err-below-clause-fault
returns-in_err-below-clause-fault c why is =
    let cells = texts_of c.args.line.now in
    let upper = c.bytes.ensures ∙ c.in_ok-upper.ensures.text ∙ input_left _ c.args.line.now c.cells-cells.ensures.value in
    let lower = c.bytes-2.ensures ∙ c.in_ok-lower.ensures.text ∙ candidate_left _ _ c.args.line.now c.cells-cells.ensures.value c.next_text.ensures.rest in
    let from = err_from_is_err_and c.from_residual-in_err-below.result c.from_residual-in_err-below.ensures.1 in
    let told : c.in_err-below.field-0.0 ≡ why = cc (from.1, from.2) in
    let none = ap (λ text. name_faults c.args.t.now text) (sym upper) ∙ c.in_ok-above.ensures.faults in
    subst (λ w. IsFirst w (pair_faults c.args.t.now (length c.args.pairs.now) cells)) told
    (lower-first c.args.t.now (length c.args.pairs.now) cells c.bytes-2.result.now c.in_err-below.field-0.0 none lower c.in_err-below.ensures.faults)

pub returns-then-eq-clause-fault : goal.returns-then-eq-clause-fault
returns-then-eq-clause-fault c why is =
    let cells = texts_of c.args.line.now in
    let upper = c.bytes.ensures ∙ c.in_ok-upper.ensures.text ∙ input_left _ c.args.line.now c.cells-cells.ensures.value in
    let lower = c.bytes-2.ensures ∙ c.in_ok-lower.ensures.text ∙ candidate_left _ _ c.args.line.now c.cells-cells.ensures.value c.next_text.ensures.rest in
    let named = are_named c.args.t.now cells c.bytes.result.now c.bytes-2.result.now _ _ upper lower c.in_ok-above.ensures.faults c.in_ok-below.ensures.faults c.in_ok-above.ensures.number c.in_ok-below.ensures.number in
    let told : SameConstraint ≡ why = cc in
    subst (λ w. IsFirst w (pair_faults c.args.t.now (length c.args.pairs.now) cells)) told (same-first c.args.t.now (length c.args.pairs.now) cells _ _ named (sym c.if-eq.ensures))

pub returns-then-has_text-clause-fault : goal.returns-then-has_text-clause-fault
returns-then-has_text-clause-fault c why is =
    let cells = texts_of c.args.line.now in
    let upper = c.bytes.ensures ∙ c.in_ok-upper.ensures.text ∙ input_left _ c.args.line.now c.cells-cells.ensures.value in
    let lower = c.bytes-2.ensures ∙ c.in_ok-lower.ensures.text ∙ candidate_left _ _ c.args.line.now c.cells-cells.ensures.value c.next_text.ensures.rest in
    let named = are_named c.args.t.now cells c.bytes.result.now c.bytes-2.result.now _ _ upper lower c.in_ok-above.ensures.faults c.in_ok-below.ensures.faults c.in_ok-above.ensures.number c.in_ok-below.ensures.number in
    let extra = sym (extra_second _ _ _ c.args.line.now c.cells-cells.ensures.value c.next_text.ensures.rest c.next_text-2.ensures.rest) ∙ sym c.if-has_text.ensures in
    let told : ExtraCell ≡ why = cc in
    subst (λ w. IsFirst w (pair_faults c.args.t.now (length c.args.pairs.now) cells)) told (extra-first c.args.t.now (length c.args.pairs.now) cells _ _ named (sym c.if-eq.ensures) extra)

pub returns-then-len-ge-GIVEN_LIMIT-clause-fault : goal.returns-then-len-ge-GIVEN_LIMIT-clause-fault
returns-then-len-ge-GIVEN_LIMIT-clause-fault c why is =
    let cells = texts_of c.args.line.now in
    let upper = c.bytes.ensures ∙ c.in_ok-upper.ensures.text ∙ input_left _ c.args.line.now c.cells-cells.ensures.value in
    let lower = c.bytes-2.ensures ∙ c.in_ok-lower.ensures.text ∙ candidate_left _ _ c.args.line.now c.cells-cells.ensures.value c.next_text.ensures.rest in
    let named = are_named c.args.t.now cells c.bytes.result.now c.bytes-2.result.now _ _ upper lower c.in_ok-above.ensures.faults c.in_ok-below.ensures.faults c.in_ok-above.ensures.number c.in_ok-below.ensures.number in
    let extra = sym (extra_second _ _ _ c.args.line.now c.cells-cells.ensures.value c.next_text.ensures.rest c.next_text-2.ensures.rest) ∙ sym c.if-has_text.ensures in
    let told : TooManyPairs ≡ why = cc in
    subst (λ w. IsFirst w (pair_faults c.args.t.now (length c.args.pairs.now) cells)) told (many-first c.args.t.now (length c.args.pairs.now) cells _ _ named (sym c.if-eq.ensures) extra (omega (arith, c.len.ensures)))

pub returns-clause-sound : goal.returns-clause-sound
returns-clause-sound c =
    let cells = texts_of c.args.line.now in
    let upper = c.bytes.ensures ∙ c.in_ok-upper.ensures.text ∙ input_left _ c.args.line.now c.cells-cells.ensures.value in
    let lower = c.bytes-2.ensures ∙ c.in_ok-lower.ensures.text ∙ candidate_left _ _ c.args.line.now c.cells-cells.ensures.value c.next_text.ensures.rest in
    let named = are_named c.args.t.now cells c.bytes.result.now c.bytes-2.result.now _ _ upper lower c.in_ok-above.ensures.faults c.in_ok-below.ensures.faults c.in_ok-above.ensures.number c.in_ok-below.ensures.number in
    let extra = sym (extra_second _ _ _ c.args.line.now c.cells-cells.ensures.value c.next_text.ensures.rest c.next_text-2.ensures.rest) ∙ sym c.if-has_text.ensures in
    no-fault c.args.t.now (length c.args.pairs.now) cells _ _ named (sym c.if-eq.ensures) extra (omega (arith, c.len.ensures))
