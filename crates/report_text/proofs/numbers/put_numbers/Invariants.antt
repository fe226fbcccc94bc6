-- what is written, and the numbers that are left
use Rattle.std.proofs.Common.{◌≡◌, ◌++◌, length}
use Rattle.report_text.specs.Spelling.{led}
use Rattle.report_text.proofs.numbers.put_numbers.Given as goal

abbrev pub decreases-loop-rest : goal.decreases-loop-rest
decreases-loop-rest l = length l.rest

abbrev pub invariant-loop-rest : goal.invariant-loop-rest
invariant-loop-rest l = l.text ++ led l.before l.byte l.rest ≡ l.initial.text ++ led l.first l.byte l.numbers
