use Rattle.std.proofs.Common.{ℕ, ◌+◌, ◌==◌, ◌<◌, length, arith, rules, refl}
use Rattle.std.proofs.lemmas.Bool.{lt-ltb, le-ltb}
use Rattle.std.proofs.lemmas.List.Sums.{position_or_len_is}
use Rattle.std.proofs.lemmas.List.{take_rest}
use Rattle.report_reader.proofs.blocks.first_line.Goals as goal

pub returns-in-Some : goal.returns-in-Some
returns-in-Some c =
    let bytes = c.args.bytes.now in
    let within : c.in-Some.at < length bytes = search rules in
    let found = position_or_len_is (λ (b : ℕ). b == 10) bytes c.in-Some.at 0 (search rules) (search rules) (search rules) in
    rw (take_rest bytes (c.in-Some.at + 1), found, lt-ltb _ _ within) refl

pub returns-in-None : goal.returns-in-None
returns-in-None c =
    let bytes = c.args.bytes.now in
    let found = position_or_len_is (λ (b : ℕ). b == 10) bytes (length bytes) 0 (omega arith) (search rules) (λ h. absurd (omega arith)) in
    rw (found, le-ltb (length bytes) (length bytes) (omega arith)) refl
