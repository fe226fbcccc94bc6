use Rattle.std.proofs.Common.{◌≡◌, ℕ, ◌+◌, ◌==◌, ◌≤◌, take}
use Rattle.std.specs.List.{count_by}
use Rattle.report_reader.proofs.blocks.line_count.Given as goal

abbrev pub invariant-loop-b : goal.invariant-loop-b
invariant-loop-b l = record {
  count : l.count ≡ count_by (λ (b : ℕ). b == 10) (take l.b-index l.bytes) + 1;
  small : l.count ≤ l.b-index + 1;
}
