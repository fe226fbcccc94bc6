use Rattle.std.proofs.Common.{◌<◌, length, drop, sym, ap, ◌∙◌, rules, arith, drop_of_length-le}
use Rattle.std.proofs.lemmas.List.{take_rest}
use Rattle.std.proofs.lemmas.List.Sums.{prefix_len_is}
use Rattle.tab_cells.specs.Cells.{is_space}
use Rattle.tab_cells.proofs.texts.trim_start.Goals as goal

pub returns-in-Some : goal.returns-in-Some
returns-in-Some c =
    let text = c.args.text.now in
    let within : c.in-Some.first < length text = search rules in
    let found = prefix_len_is is_space text c.in-Some.first 0 (omega arith) (search rules) (search rules) in
    take_rest text _ ∙ ap (λ n. drop n text) (sym found)

pub returns-in-None : goal.returns-in-None
returns-in-None c =
    let text = c.args.text.now in
    let found = prefix_len_is is_space text (length text) 0 (omega arith) (search rules) (search rules) in
    sym (drop_of_length-le text (omega (arith, found)))
