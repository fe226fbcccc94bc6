use Rattle.std.proofs.Common.{◌≡◌, ◌+◌, ◌-◌}
use Rattle.report_reader.specs.Grammar.{tests_at}
use Rattle.report_reader.specs.Shapes.{is_class}
use Rattle.report_reader.proofs.blocks.classes_at.Given as goal

abbrev pub invariant-loop-a : goal.invariant-loop-a
invariant-loop-a l = tests_at (is_class l.n l.i) (l.a + 1) (l.count - l.a) l.rest ≡ tests_at (is_class l.n l.i) 1 l.count l.bytes
