-- the first strata are written, or stand at the front of the bytes
use Rattle.std.proofs.Common.{◌≡◌, ◌≤◌, ◌++◌, length, take, codes}
use Rattle.std.specs.List.{join_by, range_with_len}
use Rattle.report_text.specs.Spelling.{spaced, stratum}
use Rattle.report_text.proofs.hierarchy.put_hierarchy.Given as goal

abbrev pub invariant-loop-above : goal.invariant-loop-above
invariant-loop-above l =
    (length l.bytes ≡ 512) × (l.end ≤ 451) × (l.text ++ take l.end l.bytes ≡ l.initial.text ++ join_by (λ s. spaced (stratum l.strata s)) (codes " | ") (range_with_len 1 l.above))
