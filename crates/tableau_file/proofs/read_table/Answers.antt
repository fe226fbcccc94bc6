use Rattle.std.proofs.Common.{◌≡◌, length, drop, slice_index_or, [], Err, ap, sym, ◌∙◌, arith}
use Rattle.std.proofs.lemmas.List.{get_or-drop, drop-drop}
use Rattle.tableau_file.specs.Rows.{texts_of, abbreviations_of}
use Rattle.tableau_file.proofs.Tables.{IsNamed, IsAbbreviated, names-refused, few-names, abbreviations-refused, rows-refused, table-read}
use Rattle.tableau_file.proofs.read_table.Goals as goal

pub returns-in-Err-clause-refused : goal.returns-in-Err-clause-refused
returns-in-Err-clause-refused c refusal is =
    let told = c.error_at.ensures.refused refusal (cc) in
    names-refused c.args.lines c.next_line.result.now refusal c.next_line.ensures.line told.0 (c.in-Err.ensures.fault refusal.why (ap Err told.1))

pub read_abbreviations-requires : goal.read_abbreviations-requires
read_abbreviations-requires c =
    let named : IsNamed c.args.lines c.next_line.result.now c.in-Ok.names = record { first_is = c.next_line.ensures.line; sound = c.in-Ok.ensures.sound; names_are = c.in-Ok.ensures.names } in
    omega (arith, few-names _ _ _ named, ap length c.as_slice.ensures)

pub returns-in-Err-read_abbreviations-clause-refused : goal.returns-in-Err-read_abbreviations-clause-refused
returns-in-Err-read_abbreviations-clause-refused c refusal is =
    let named : IsNamed c.args.lines c.next_line.result.now c.in-Ok.names = record { first_is = c.next_line.ensures.line; sound = c.in-Ok.ensures.sound; names_are = c.in-Ok.ensures.names } in
    let told = c.error_at-in-Err-read_abbreviations.ensures.refused refusal (cc) in
    let fault = c.in-Err-read_abbreviations.ensures.fault refusal.why (ap Err told.1) in
    let second : c.next_line-2.result.now ≡ slice_index_or c.args.lines 1 [] = c.next_line-2.ensures.line ∙ ap (λ lines. slice_index_or lines 0 []) c.next_line.ensures.rest ∙ get_or-drop 1 c.args.lines 0 [] in
    abbreviations-refused c.args.lines c.next_line.result.now c.in-Ok.names c.next_line-2.result.now refusal named second told.0
    (rw (ap length c.as_slice.ensures) at fault)

pub returns-in_err-inputs-clause-refused : goal.returns-in_err-inputs-clause-refused
returns-in_err-inputs-clause-refused c refusal is =
    let named : IsNamed c.args.lines c.next_line.result.now c.in-Ok.names = record { first_is = c.next_line.ensures.line; sound = c.in-Ok.ensures.sound; names_are = c.in-Ok.ensures.names } in
    let second : c.next_line-2.result.now ≡ slice_index_or c.args.lines 1 [] = c.next_line-2.ensures.line ∙ ap (λ lines. slice_index_or lines 0 []) c.next_line.ensures.rest ∙ get_or-drop 1 c.args.lines 0 [] in
    let rest : c.next_line-2.new.lines ≡ drop 2 c.args.lines = c.next_line-2.ensures.rest ∙ ap (drop 1) c.next_line.ensures.rest ∙ drop-drop 1 1 c.args.lines in
    let told = c.in-Ok-read_abbreviations.ensures in
    let abbreviated : IsAbbreviated c.args.lines c.in-Ok.names c.next_line-2.result.now c.in-Ok-read_abbreviations.abbrevs = record {
      second_is = second;
      sound = rw (ap length c.as_slice.ensures) at told.sound;
      abbreviations_are = told.abbreviations ∙ ap (λ names. abbreviations_of names (texts_of c.next_line-2.result.now)) c.as_slice.ensures;
    } in
    let first = c.in_err-inputs.ensures.refused refusal (ap Err (sym (rw is at c.from_residual.ensures.1))) in
    rows-refused c.args.lines c.next_line.result.now c.in-Ok.names c.next_line-2.result.now c.in-Ok-read_abbreviations.abbrevs refusal named abbreviated (rw (c.len.ensures, rest) at first)

pub returns-clause-read : goal.returns-clause-read
returns-clause-read c =
    let named : IsNamed c.args.lines c.next_line.result.now c.in-Ok.names = record { first_is = c.next_line.ensures.line; sound = c.in-Ok.ensures.sound; names_are = c.in-Ok.ensures.names } in
    let second : c.next_line-2.result.now ≡ slice_index_or c.args.lines 1 [] = c.next_line-2.ensures.line ∙ ap (λ lines. slice_index_or lines 0 []) c.next_line.ensures.rest ∙ get_or-drop 1 c.args.lines 0 [] in
    let rest : c.next_line-2.new.lines ≡ drop 2 c.args.lines = c.next_line-2.ensures.rest ∙ ap (drop 1) c.next_line.ensures.rest ∙ drop-drop 1 1 c.args.lines in
    let told = c.in-Ok-read_abbreviations.ensures in
    let abbreviated : IsAbbreviated c.args.lines c.in-Ok.names c.next_line-2.result.now c.in-Ok-read_abbreviations.abbrevs = record {
      second_is = second;
      sound = rw (ap length c.as_slice.ensures) at told.sound;
      abbreviations_are = told.abbreviations ∙ ap (λ names. abbreviations_of names (texts_of c.next_line-2.result.now)) c.as_slice.ensures;
    } in
    table-read c.args.lines c.next_line.result.now c.in-Ok.names c.next_line-2.result.now c.in-Ok-read_abbreviations.abbrevs c.in_ok-inputs.inputs named abbreviated
    (rw (c.len.ensures, rest) at c.in_ok-inputs.ensures.sound)
    (rw (c.len.ensures, rest) at c.in_ok-inputs.ensures.inputs)
