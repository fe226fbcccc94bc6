use Rattle.std.proofs.Common.{ℕ, List, length, arith, ap}
use Rattle.std.proofs.lemmas.Fmt.{decimal_digit, length-decimal-le}
use Rattle.report_text.proofs.Kept.{digits-step}
use Rattle.report_text.proofs.prefixes.digit_count.Goals as goal

pub overflow_add-count : goal.overflow_add-count
overflow_add-count c = omega (arith, c.loop-left.invariant.1, length-decimal-le 20 c.args.n (omega arith) (omega arith) (omega arith))

pub loop-left-preserved : goal.loop-left-preserved
loop-left-preserved c = (
  omega (arith, c.loop-left.invariant.0),
  omega (arith, c.loop-left.invariant.1, digits-step c.loop-left.left (omega (arith, c.loop-left-test.true)) (omega arith)),
)

pub returns-clause-count : goal.returns-clause-count
returns-clause-count c = omega (arith, c.loop-left.invariant.1, ap (λ (l : List ℕ). length l) (decimal_digit c.loop-left.left (omega (arith, c.loop-left-test.false))))

pub returns-clause-short : goal.returns-clause-short
returns-clause-short c =
    omega (arith, c.loop-left.invariant.1, ap (λ (l : List ℕ). length l) (decimal_digit c.loop-left.left (omega (arith, c.loop-left-test.false))), length-decimal-le 20 c.args.n (omega arith) (omega arith) (omega arith))
