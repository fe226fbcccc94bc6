-- the certificates so far are tallied
use Rattle.std.proofs.Common.{take}
use Rattle.typology_core.specs.Judged.{AreTallies, named_of}
use Rattle.typology_core.proofs.Counted.{AreFew}
use Rattle.typology_core.proofs.learning.tallies.Given as goal

abbrev pub invariant-loop-certificate : goal.invariant-loop-certificate
invariant-loop-certificate l = AreTallies l.longest (named_of (take l.certificate-index l.named)) l.tallies.items × AreFew l.longest l.certificate-index l.tallies.items
