-- the text without the numbers of the first classes has this length
use Rattle.std.proofs.Common.{◌≡◌, ◌+◌, length, take}
use Rattle.report_text.proofs.Kept.{written}
use Rattle.report_text.proofs.prefixes.drop_numbers.Given as goal

abbrev pub invariant-loop-class : goal.invariant-loop-class
invariant-loop-class l = l.end + length (written (take l.class-index l.classes)) ≡ length l.kept
