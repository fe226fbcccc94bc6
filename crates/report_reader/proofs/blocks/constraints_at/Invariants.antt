use Rattle.std.proofs.Common.{◌≡◌, ◌+◌, ◌-◌}
use Rattle.report_reader.specs.Grammar.{tests_at}
use Rattle.report_reader.specs.Shapes.{is_constraint}
use Rattle.report_reader.proofs.blocks.constraints_at.Given as goal

abbrev pub invariant-loop-k : goal.invariant-loop-k
invariant-loop-k l = tests_at is_constraint (l.k + 1) (l.count - l.k) l.rest ≡ tests_at is_constraint 1 l.count l.bytes
