use Rattle.refutation.specs.Prefixes.{class_numbers}
use Rattle.typology_workers.proofs.Indexing.{IsEarliestTo}
use Rattle.typology_workers.proofs.index.Index.first.Given as goal

abbrev pub invariant-loop-i : goal.invariant-loop-i
invariant-loop-i l = IsEarliestTo l.p l.front.values (class_numbers l.prefix) l.i l.best
