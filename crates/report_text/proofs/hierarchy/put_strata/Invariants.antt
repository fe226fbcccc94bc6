-- the lines of the first strata are written
use Rattle.std.proofs.Common.{◌≡◌, ◌++◌, flat_map}
use Rattle.std.specs.List.{range_with_len}
use Rattle.report_text.specs.Reports.{stratum_line}
use Rattle.report_text.proofs.hierarchy.put_strata.Given as goal

abbrev pub invariant-loop-above : goal.invariant-loop-above
invariant-loop-above l = l.text ≡ l.initial.text ++ flat_map (stratum_line l.abbreviations l.strata) (range_with_len 1 l.above)
