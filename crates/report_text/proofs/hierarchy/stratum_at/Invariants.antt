-- the first constraints of the stratum stand behind the first bytes
use Rattle.report_text.proofs.Spaced.{IsStratumBehind}
use Rattle.report_text.proofs.hierarchy.stratum_at.Given as goal

abbrev pub invariant-loop-c : goal.invariant-loop-c
invariant-loop-c l = IsStratumBehind l.strata l.level l.c l.start l.end l.initial.bytes l.bytes
