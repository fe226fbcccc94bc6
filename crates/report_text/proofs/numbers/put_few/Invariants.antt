-- what is written, and the numbers that are left
use Rattle.std.proofs.Common.{◌≡◌, ◌++◌, drop}
use Rattle.report_text.specs.Spelling.{led}
use Rattle.report_text.proofs.numbers.put_few.Given as goal

abbrev pub invariant-loop-number : goal.invariant-loop-number
invariant-loop-number l = l.text ++ led l.before l.byte (drop l.number-index l.few) ≡ l.initial.text ++ led l.first l.byte l.few
