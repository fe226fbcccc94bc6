-- the digits that are counted, and those of what is left
use Rattle.std.proofs.Common.{◌≡◌, ◌≤◌, ◌+◌, length, decimal}
use Rattle.report_text.proofs.prefixes.digit_count.Given as goal

abbrev pub invariant-loop-left : goal.invariant-loop-left
invariant-loop-left l = (l.left ≤ l.n) × (length (decimal l.n) + 1 ≡ l.count + length (decimal l.left))

abbrev pub decreases-loop-left : goal.decreases-loop-left
decreases-loop-left l = l.left
