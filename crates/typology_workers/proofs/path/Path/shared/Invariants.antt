use Rattle.std.proofs.Common.{◌≡◌, take}
use Rattle.refutation.specs.Prefixes.{class_numbers}
use Rattle.typology_workers.specs.Paths.{prefix_of}
use Rattle.typology_workers.proofs.path.Path.shared.Given as goal

abbrev pub invariant-loop-k : goal.invariant-loop-k
invariant-loop-k l = take l.k (prefix_of l.self) ≡ take l.k (class_numbers l.prefix)
