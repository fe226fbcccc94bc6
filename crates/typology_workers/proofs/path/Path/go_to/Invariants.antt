use Rattle.std.proofs.Common.{◌≡◌, take}
use Rattle.refutation.specs.Prefixes.{class_numbers}
use Rattle.typology_workers.specs.Paths.{IsPathOf, prefix_of}
use Rattle.typology_workers.proofs.path.Path.go_to.Given as goal

abbrev pub invariant-loop-k : goal.invariant-loop-k
invariant-loop-k l = record {
  path : IsPathOf l.p l.self;
  there : prefix_of l.self ≡ take l.k (class_numbers l.prefix);
}
