use Rattle.std.proofs.Common.{sym, ◌∙◌}
use Rattle.std.proofs.lemmas.Bool.{and_right}
use Rattle.tableau_file.specs.Numbers.{is_short_number}
use Rattle.tableau_file.proofs.Points.{counted-cut, uncounted-cut}
use Rattle.tableau_file.proofs.numbers.count_of.Goals as goal

pub returns-then-is_short_number-clause-some : goal.returns-then-is_short_number-clause-some
returns-then-is_short_number-clause-some c =
    let cut = rw c.in-Some.is at c.cut_at_point.ensures in
    let counted = counted-cut c.args.text.now c.cut_at_point.result.0.now c.in-Some.part.now cut (sym c.is_short_number.ensures ∙ c.if-not-is_short_number.false) (sym c.is_short_number-2.ensures ∙ c.if-is_short_number.true) in
    (counted.0, rw (c.from-count.ensures, c.value_of.ensures.value, c.billionths_of.ensures.value) counted.1)

pub returns-else-is_short_number-clause-none : goal.returns-else-is_short_number-clause-none
returns-else-is_short_number-clause-none c =
    let cut = rw c.in-Some.is at c.cut_at_point.ensures in
    let wrong = sym c.is_short_number-2.ensures ∙ c.if-is_short_number.false in
    uncounted-cut c.args.text.now c.cut_at_point.result.0.now c.in-Some.part.now cut (sym c.is_empty.ensures ∙ c.if-is_empty.false) (and_right (is_short_number c.cut_at_point.result.0.now) (is_short_number c.in-Some.part.now) wrong)
