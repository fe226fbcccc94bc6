use Rattle.std.proofs.Common.{◌≡◌, ◌+◌, ◌-◌}
use Rattle.report_reader.specs.Grammar.{line_at, each_at}
use Rattle.refutation.specs.Typologies.{cuts_of}
use Rattle.report_reader.specs.Shapes.{cut_line}
use Rattle.report_reader.proofs.LinesInTurn.{with_front}
use Rattle.report_reader.proofs.blocks.cuts_of.Given as goal

-- those so far, and those of the lines that are left
abbrev pub invariant-loop-k : goal.invariant-loop-k
invariant-loop-k l = with_front (cuts_of l.cuts) (each_at (λ k. line_at (cut_line l.head.counts l.certificates k)) (l.k + 1) (l.count - l.k) l.rest) ≡ each_at (λ k. line_at (cut_line l.head.counts l.certificates k)) 1 l.count l.bytes
