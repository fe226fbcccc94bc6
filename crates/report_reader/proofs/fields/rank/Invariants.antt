use Rattle.std.proofs.Common.{◌≡◌, length}
use Rattle.report_reader.specs.Fields.{words, strata_of}
use Rattle.report_reader.proofs.fields.rank.Given as goal

abbrev pub invariant-loop-word : goal.invariant-loop-word
invariant-loop-word l = record {
  strata : strata_of l.levels l.level l.last l.word-iterator ≡ strata_of l.fn.levels 1 0 (words l.field);
  length : length l.levels ≡ length l.fn.levels;
}
