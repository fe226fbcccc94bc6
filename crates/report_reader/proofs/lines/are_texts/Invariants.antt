use Rattle.std.proofs.Common.{◌≡◌}
use Rattle.std.specs.List.{list_all}
use Rattle.report_reader.specs.Fields.{fields, is_text}
use Rattle.report_reader.proofs.lines.are_texts.Given as goal

abbrev pub invariant-loop-field : goal.invariant-loop-field
invariant-loop-field l = list_all is_text l.field-iterator ≡ list_all is_text (fields l.line)
