use Rattle.std.proofs.Common.{ℕ, ◌+◌, ◌==◌, ◌<◌, length, arith, rules}
use Rattle.std.proofs.lemmas.List.Sums.{position_or_len_is}
use Rattle.std.proofs.lemmas.List.{take_rest}
use Rattle.std.proofs.lemmas.List.Splits.{slice_split_first, slice_split_none}
use Rattle.tab_cells.proofs.pieces.cut_at_tab.Goals as goal

pub returns-in-Some : goal.returns-in-Some
returns-in-Some c =
    let line = c.args.line.now in
    let within : c.in-Some.at < length line = search rules in
    let found = position_or_len_is (λ (b : ℕ). b == 9) line c.in-Some.at 0 (search rules) (search rules) (search rules) in
    rw (take_rest line (c.in-Some.at + 1), ← found) (slice_split_first (λ (b : ℕ). b == 9) line 0 (omega (arith, found)))

pub returns-in-None : goal.returns-in-None
returns-in-None c = slice_split_none (λ (b : ℕ). b == 9) c.args.line.now (search rules)
