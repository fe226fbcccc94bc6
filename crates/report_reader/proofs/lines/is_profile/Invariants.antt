use Rattle.std.proofs.Common.{◌≡◌, ◌&&◌, ◌==◌, length}
use Rattle.std.specs.List.{list_all}
use Rattle.report_reader.specs.Fields.{is_number}
use Rattle.report_reader.specs.Shapes.{is_profile}
use Rattle.report_reader.proofs.lines.is_profile.Given as goal

-- the words that are left are as many as are wanted, and numbers
abbrev pub invariant-loop-word : goal.invariant-loop-word
invariant-loop-word l = ((length l.word-iterator == l.left) && list_all is_number l.word-iterator) ≡ is_profile l.n l.field
