-- the first k numbers are written, each behind the byte, if each has one digit
use Rattle.std.proofs.Common.{◌≡◌, ◌*◌, ◌<◌, length, take}
use Rattle.report_text.specs.Spelling.{behind}
use Rattle.report_text.proofs.numbers.digits_behind.Given as goal

abbrev pub invariant-loop-k : goal.invariant-loop-k
invariant-loop-k l = (length l.bytes ≡ 128) × (l.greatest < 10 → take (2 * l.k) l.bytes ≡ behind l.byte (take l.k l.few))
