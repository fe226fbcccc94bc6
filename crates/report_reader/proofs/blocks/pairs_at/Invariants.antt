use Rattle.std.proofs.Common.{◌≡◌, ◌+◌, ◌-◌}
use Rattle.report_reader.specs.Grammar.{tests_at}
use Rattle.report_reader.specs.Shapes.{is_given}
use Rattle.report_reader.proofs.blocks.pairs_at.Given as goal

abbrev pub invariant-loop-k : goal.invariant-loop-k
invariant-loop-k l = tests_at (is_given l.n) (l.k + 1) (l.count - l.k) l.rest ≡ tests_at (is_given l.n) 1 l.count l.bytes
