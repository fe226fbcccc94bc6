use Rattle.std.proofs.Common.{◌≡◌, ◌+◌, ◌-◌}
use Rattle.report_reader.specs.Grammar.{line_at, each_at}
use Rattle.refutation.specs.Typologies.{certificates_of}
use Rattle.report_reader.specs.Shapes.{certificate_line}
use Rattle.report_reader.proofs.LinesInTurn.{with_front}
use Rattle.report_reader.proofs.blocks.certificates_of.Given as goal

-- those so far, and those of the lines that are left
abbrev pub invariant-loop-k : goal.invariant-loop-k
invariant-loop-k l = with_front (certificates_of l.certificates) (each_at (λ k. line_at (certificate_line l.head.constraints l.head.counts l.head.pairs k)) (l.k + 1) (l.count - l.k) l.rest) ≡ each_at (λ k. line_at (certificate_line l.head.constraints l.head.counts l.head.pairs k)) 1 l.count l.bytes
