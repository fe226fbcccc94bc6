use Rattle.std.proofs.Common.{append_assoc}
use Rattle.report_text.specs.Reports.{stratum_line}
use Rattle.report_text.proofs.Spaced.{range_lines_more}
use Rattle.report_text.proofs.hierarchy.put_strata.Goals as goal

pub loop-above-preserved : goal.loop-above-preserved
loop-above-preserved c =
    rw (range_lines_more (stratum_line c.args.abbreviations.now c.args.strata.now) c.loop-above.above, c.in_ok-put_stratum_line.ensures, c.loop-above.invariant) (simp append_assoc)
