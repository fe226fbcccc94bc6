use Rattle.std.proofs.Common.{ℕ, ◌≤◌, ◌<◌, ◌^◌, lit<, arith}
use Rattle.std.proofs.Math.Nat.{pow-le-pow_right}
use Rattle.report_reader.proofs.fields.value_of.Goals as goal

below_nine : (i : ℕ) → i < 9 → 10 ^ i ≤ 10 ^ 8
below_nine i h = pow-le-pow_right {n = 10} (lit< tt) {i = i} {j = 8} (omega arith)

pub overflow_mul-value : goal.overflow_mul-value
overflow_mul-value c =
    let small : c.loop-b.b-index < 9 = omega arith in
    omega (arith, below_nine c.loop-b.b-index small)

pub overflow_add-value : goal.overflow_add-value
overflow_add-value c =
    let small : c.loop-b.b-index < 9 = omega arith in
    omega (arith, below_nine c.loop-b.b-index small)
