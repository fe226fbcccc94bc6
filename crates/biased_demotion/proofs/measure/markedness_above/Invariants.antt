-- the number of those among the constraints so far
use Rattle.std.proofs.Common.{◌≡◌, ◌≤◌, ◌&&◌, slice_index}
use Rattle.std.specs.Prelude.{nat_lt, count_by}
use Rattle.ot_theory.specs.Rankings.{numbers_below}
use Rattle.biased_demotion.specs.Biased.{is_markedness}
use Rattle.biased_demotion.proofs.measure.markedness_above.Given as goal

abbrev pub invariant-loop-m : goal.invariant-loop-m
invariant-loop-m l = record {
  number : l.count ≡ count_by (λ m. is_markedness l.faith m && nat_lt (slice_index l.s m) (slice_index l.s l.f.0)) (numbers_below l.m);
  small : l.count ≤ l.m;
}
