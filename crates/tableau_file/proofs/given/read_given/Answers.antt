use Rattle.std.proofs.Common.{◌≡◌, Ok, ap, sym, ◌∙◌, subst}
use Rattle.std.specs.Result.{IfOk}
use Rattle.tab_cells.specs.Lines.{lines_of}
use Rattle.tableau_file.proofs.GivenRefusals.{given-long, given-table, given-utf16}
use Rattle.tableau_file.proofs.given.read_given.Goals as goal

pub returns-then-bytes-gt-FILE_LIMIT-clause-refused : goal.returns-then-bytes-gt-FILE_LIMIT-clause-refused
returns-then-bytes-gt-FILE_LIMIT-clause-refused c refusal is = let long = given-long c.args.t.now c.args.bytes.now c.if-bytes-gt-FILE_LIMIT.true in cc

pub returns-then-is_utf16-clause-refused : goal.returns-then-is_utf16-clause-refused
returns-then-is_utf16-clause-refused c refusal is = let marked = given-utf16 c.args.t.now c.args.bytes.now c.if-bytes-gt-FILE_LIMIT.false (sym c.if-is_utf16.ensures) in cc

pub returns-clause-read : goal.returns-clause-read
returns-clause-read c =
    let lines = c.lines.ensures.value ∙ ap lines_of c.without_mark.ensures.value in
    let reads = given-table c.args.t.now c.args.bytes.now c.lines.result c.if-bytes-gt-FILE_LIMIT.false (sym c.if-is_utf16.ensures) lines in
    subst (λ reading. IfOk c.read_pairs.result (λ pairs. reading ≡ Ok pairs)) (sym reads) c.read_pairs.ensures.read

pub returns-clause-refused : goal.returns-clause-refused
returns-clause-refused c refusal is =
    let lines = c.lines.ensures.value ∙ ap lines_of c.without_mark.ensures.value in
    given-table c.args.t.now c.args.bytes.now c.lines.result c.if-bytes-gt-FILE_LIMIT.false (sym c.if-is_utf16.ensures) lines ∙ c.read_pairs.ensures.refused refusal is
