use Rattle.std.proofs.Common.{◌≡◌, ◌+◌, ◌-◌}
use Rattle.report_reader.specs.Grammar.{line_at, each_at}
use Rattle.refutation.specs.Typologies.{found_of}
use Rattle.report_reader.specs.Shapes.{language_line}
use Rattle.report_reader.proofs.LinesInTurn.{with_front}
use Rattle.report_reader.proofs.blocks.languages_of.Given as goal

-- those so far, and those of the lines that are left
abbrev pub invariant-loop-k : goal.invariant-loop-k
invariant-loop-k l = with_front (found_of l.languages) (each_at (λ k. line_at (language_line l.head.constraints l.head.counts k)) (l.k + 1) (l.count - l.k) l.rest) ≡ each_at (λ k. line_at (language_line l.head.constraints l.head.counts k)) 1 l.count l.bytes
