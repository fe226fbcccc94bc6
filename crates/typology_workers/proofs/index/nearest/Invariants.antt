use Rattle.std.proofs.Common.{ℕ, ◌<◌, ◌≤◌, slice_index}
use Rattle.refutation.specs.Prefixes.{class_numbers}
use Rattle.typology_workers.specs.Indexed.{Has, RefutesAt}
use Rattle.typology_workers.proofs.index.nearest.Given as goal

abbrev pub invariant-loop-k : goal.invariant-loop-k
invariant-loop-k l = record {
  low : l.nearest ≤ l.best;
  hit : l.nearest < l.best → Has l.places l.nearest × RefutesAt l.front.values (class_numbers l.prefix) l.nearest;
  all : (j : ℕ) → j < l.k → RefutesAt l.front.values (class_numbers l.prefix) (slice_index l.places j) → l.nearest ≤ slice_index l.places j;
}
