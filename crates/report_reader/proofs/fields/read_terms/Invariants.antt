use Rattle.std.proofs.Common.{◌≡◌}
use Rattle.refutation.specs.Terms.{terms_in}
use Rattle.report_reader.specs.Fields.{words, terms_of}
use Rattle.report_reader.proofs.WordsInTurn.{with_before}
use Rattle.report_reader.proofs.fields.read_terms.Given as goal

-- those so far, and those of the words that are left
abbrev pub invariant-loop-word : goal.invariant-loop-word
invariant-loop-word l = with_before (terms_in l.buffer.items) (terms_of l.counts l.pairs l.word-iterator) ≡ terms_of l.counts l.pairs (words l.field)
