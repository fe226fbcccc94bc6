use Rattle.std.proofs.Common.{◌≡◌, ◌+◌, ◌-◌, ◌<◌, length, take, ap, rules, arith}
use Rattle.std.specs.List.{suffix_len}
use Rattle.std.proofs.lemmas.List.Sums.{suffix_len_is}
use Rattle.tab_cells.specs.Cells.{is_space}
use Rattle.tab_cells.proofs.texts.trim_end.Goals as goal

pub returns-in-Some : goal.returns-in-Some
returns-in-Some c =
    let text = c.args.text.now in
    let within : c.in-Some.last < length text = search rules in
    let found = suffix_len_is is_space text (c.in-Some.last + 1) 0 (omega arith) (search rules) (search rules) in
    let kept : c.in-Some.last + 1 ≡ length text - suffix_len is_space text = omega (arith, found) in
    ap (λ n. take n text) kept

pub returns-in-None : goal.returns-in-None
returns-in-None c =
    let text = c.args.text.now in
    let found = suffix_len_is is_space text 0 0 (omega arith) (search rules) (search rules) in
    let kept : 0 ≡ length text - suffix_len is_space text = omega (arith, found) in
    ap (λ n. take n text) kept
