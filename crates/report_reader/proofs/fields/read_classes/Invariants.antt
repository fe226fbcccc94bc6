use Rattle.std.proofs.Common.{◌≡◌}
use Rattle.refutation.specs.Prefixes.{class_numbers}
use Rattle.report_reader.specs.Fields.{words, classes}
use Rattle.report_reader.proofs.WordsInTurn.{with_before}
use Rattle.report_reader.proofs.fields.read_classes.Given as goal

-- those so far, and those of the words that are left
abbrev pub invariant-loop-word : goal.invariant-loop-word
invariant-loop-word l = with_before (class_numbers l.buffer.items) (classes l.rest l.word-iterator) ≡ classes l.counts (words l.field)
