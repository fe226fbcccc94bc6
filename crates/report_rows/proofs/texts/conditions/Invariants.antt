use Rattle.std.proofs.Common.{◌≡◌, length}
use Rattle.report_rows.proofs.texts.conditions.Given as goal

abbrev pub invariant-loop-marks : goal.invariant-loop-marks
invariant-loop-marks g l = length l.conditions ≡ l.marks-index
