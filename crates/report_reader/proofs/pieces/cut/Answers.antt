use Rattle.std.proofs.Common.{ℕ, ◌+◌, ◌==◌, ◌<◌, length, arith, rules}
use Rattle.std.proofs.lemmas.List.Sums.{position_or_len_is}
use Rattle.std.proofs.lemmas.List.{take_rest}
use Rattle.std.proofs.lemmas.List.Splits.{slice_split_first, slice_split_none}
use Rattle.report_reader.proofs.pieces.cut.Goals as goal

pub returns-in-Some : goal.returns-in-Some
returns-in-Some c =
    let text = c.args.text.now in
    let separator = c.args.separator in
    let within : c.in-Some.at < length text = search rules in
    let found = position_or_len_is (λ (b : ℕ). b == separator) text c.in-Some.at 0 (search rules) (search rules) (search rules) in
    rw (take_rest text (c.in-Some.at + 1), ← found) (slice_split_first (λ (b : ℕ). b == separator) text 0 (omega (arith, found)))

pub returns-in-None : goal.returns-in-None
returns-in-None c = slice_split_none (λ (b : ℕ). b == c.args.separator) c.args.text.now (search rules)
