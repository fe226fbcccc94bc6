use Rattle.std.proofs.Common.{ℕ, ◌+◌, ◌/◌, ◌%◌, List, ◌++◌, take, arith, ap, sym, ◌∙◌}
use Rattle.std.proofs.lemmas.Fmt.{decimal_digit}
use Rattle.std.proofs.lemmas.List.{take_more_set}
use Rattle.report_text.proofs.Led.{decimal-two, take-pair}
use Rattle.report_text.proofs.hierarchy.digits_at.Goals as goal

pub returns-then-n-lt10-clause-written : goal.returns-then-n-lt10-clause-written
returns-then-n-lt10-clause-written c =
    let n = c.args.n in
    take_more_set c.args.bytes.now c.args.end (48 + n) (omega (arith, c.requires.room))
    ∙ ap (λ (l : List ℕ). take c.args.end c.args.bytes.now ++ l) (sym (decimal_digit n c.if-n-lt10.true))

pub returns-clause-written : goal.returns-clause-written
returns-clause-written c =
    let n = c.args.n in
    take-pair c.args.bytes.now c.args.end (48 + n / 10) (48 + n % 10) (omega (arith, c.requires.room))
    ∙ ap (λ (l : List ℕ). take c.args.end c.args.bytes.now ++ l) (sym (decimal-two n (omega (arith, c.if-n-lt10.false)) c.requires.small))
