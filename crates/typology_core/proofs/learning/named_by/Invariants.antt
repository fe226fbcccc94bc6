-- what the cuts so far name
use Rattle.std.proofs.Common.{◌≡◌, take}
use Rattle.refutation.specs.Typologies.{cuts_of}
use Rattle.typology_core.specs.Judged.{named_of}
use Rattle.typology_core.specs.Learned.{all_named}
use Rattle.typology_core.proofs.learning.named_by.Given as goal

abbrev pub invariant-loop-cut : goal.invariant-loop-cut
invariant-loop-cut l = named_of l.named.items ≡ all_named (cuts_of (take l.cut-index l.cuts)) l.certificates
