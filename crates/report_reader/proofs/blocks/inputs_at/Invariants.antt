use Rattle.std.proofs.Common.{◌≡◌, ◌+◌, ◌-◌}
use Rattle.report_reader.specs.Grammar.{input_at, each_at}
use Rattle.report_reader.proofs.LinesInTurn.{with_front}
use Rattle.report_reader.proofs.blocks.inputs_at.Given as goal

-- those so far, and those of the lines that are left
abbrev pub invariant-loop-k : goal.invariant-loop-k
invariant-loop-k l = with_front l.counts (each_at (input_at l.n) (l.k + 1) (l.count - l.k) l.rest) ≡ each_at (input_at l.n) 1 l.count l.bytes
