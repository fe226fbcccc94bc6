-- the cuts so far name the one certificate
use Rattle.std.proofs.Common.{◌<◌}
use Rattle.std.specs.Prelude.{All}
use Rattle.report_rows.proofs.texts.cuts.Given as goal

abbrev pub invariant-loop-classes : goal.invariant-loop-classes
invariant-loop-classes l = All (λ cut. cut.certificate < 1) l.cuts
