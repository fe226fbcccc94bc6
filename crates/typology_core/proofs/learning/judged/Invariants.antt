-- the certificates of the lengths so far are counted
use Rattle.typology_core.specs.Judged.{IsCount}
use Rattle.typology_core.proofs.Counted.{learns_below}
use Rattle.typology_core.proofs.learning.judged.Given as goal

abbrev pub invariant-loop-length : goal.invariant-loop-length
invariant-loop-length l = IsCount l.held l.places (learns_below l.length l.named) l.count
