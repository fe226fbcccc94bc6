-- the violations of the first k constraints stand there
use Rattle.std.proofs.Common.{◌≡◌, length, map, take, slice_index}
use Rattle.report_text.proofs.tableaux.in_order.Given as goal

abbrev pub invariant-loop-k : goal.invariant-loop-k
invariant-loop-k l = (length l.violations ≡ 64) × (take l.k l.violations ≡ map (slice_index l.profile) (take l.k l.order))
