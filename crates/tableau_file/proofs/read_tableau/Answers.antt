use Rattle.std.proofs.Common.{◌≡◌, map, Ok, ap, sym, ◌∙◌, subst}
use Rattle.std.specs.Result.{IfOk}
use Rattle.std.proofs.lemmas.Result.{IfOk-weaker}
use Rattle.tab_cells.specs.Lines.{lines_of}
use Rattle.ot_base.specs.Acceptable.{IsAcceptable}
use Rattle.tableau_file.specs.Reading.{table_reading}
use Rattle.tableau_file.specs.Rows.{texts_of}
use Rattle.tableau_file.proofs.Accepted.{acceptable}
use Rattle.tableau_file.proofs.Readings.{reading-long, reading-utf16, reading-table}
use Rattle.tableau_file.proofs.read_tableau.Goals as goal

pub returns-then-bytes-gt-FILE_LIMIT-clause-refused : goal.returns-then-bytes-gt-FILE_LIMIT-clause-refused
returns-then-bytes-gt-FILE_LIMIT-clause-refused c refusal is = let long = reading-long c.args.bytes.now c.if-bytes-gt-FILE_LIMIT.true in cc

pub returns-then-is_utf16-clause-refused : goal.returns-then-is_utf16-clause-refused
returns-then-is_utf16-clause-refused c refusal is = let marked = reading-utf16 c.args.bytes.now c.if-bytes-gt-FILE_LIMIT.false (sym c.if-is_utf16.ensures) in cc

pub returns-clause-read : goal.returns-clause-read
returns-clause-read c =
    let lines = c.lines.ensures.value ∙ ap lines_of c.without_mark.ensures.value in
    let reads = reading-table c.args.bytes.now c.lines.result c.if-bytes-gt-FILE_LIMIT.false (sym c.if-is_utf16.ensures) lines in
    subst (λ reading. IfOk c.read_table.result (λ tableau. reading ≡ Ok tableau)) (sym reads) c.read_table.ensures.read

pub returns-clause-refused : goal.returns-clause-refused
returns-clause-refused c refusal is =
    let lines = c.lines.ensures.value ∙ ap lines_of c.without_mark.ensures.value in
    reading-table c.args.bytes.now c.lines.result c.if-bytes-gt-FILE_LIMIT.false (sym c.if-is_utf16.ensures) lines ∙ c.read_table.ensures.refused refusal is

pub returns-clause-acceptable : goal.returns-clause-acceptable
returns-clause-acceptable c =
    let table = map texts_of c.lines.result in
    IfOk-weaker c.read_table.result (λ tableau. table_reading table ≡ Ok tableau) IsAcceptable (acceptable table) c.read_table.ensures.read
