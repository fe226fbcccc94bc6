use Rattle.std.proofs.Common.{◌≡◌, true, false, sym, ◌∙◌}
use Rattle.std.proofs.lemmas.Result.{on_ok_weaker}
use Rattle.tableau_file.specs.Rows.{continues}
use Rattle.tableau_file.proofs.Inputs.{with_row-continued, with_row-begun}
use Rattle.tableau_file.proofs.row.Inputs.add.Goals as goal

pub returns-then-continues : goal.returns-then-continues
returns-then-continues c = on_ok_weaker c.push-then-continues-2.result
    (λ pushed n line text row.
    let goes_on : continues c.in-Some.last line.1 ≡ true = rw text (sym c.continues.ensures ∙ c.if-continues.true) in
    let more = with_row-continued n c.pop.new.self c.in-Some.last line goes_on in
    let was = c.in-Some.ensures in
    let candidates = c.in_ok-push.ensures.ok in cc)
    c.push-then-continues-2.ensures

pub returns : goal.returns
returns c = on_ok_weaker c.push-3.result
    (λ pushed n line text row.
    let begins : continues c.in-Some.last line.1 ≡ false = rw text (sym c.continues.ensures ∙ c.if-continues.false) in
    let more = with_row-begun n c.pop.new.self c.in-Some.last line begins in
    let was = c.in-Some.ensures in
    let before = c.in_ok-push-2.ensures in
    let input = c.in_ok-input_of-2.ensures in cc)
    c.push-3.ensures
