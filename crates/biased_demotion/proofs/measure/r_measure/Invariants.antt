-- the sum over the faithfulness constraints among those so far
use Rattle.std.proofs.Common.{◌≡◌, ◌≤◌, ◌*◌, map}
use Rattle.std.specs.Prelude.{sum, filter}
use Rattle.ot_theory.specs.Rankings.{numbers_below}
use Rattle.biased_demotion.specs.Biased.{is_faithfulness}
use Rattle.biased_demotion.specs.Measure.{markedness_above}
use Rattle.biased_demotion.proofs.measure.r_measure.Given as goal

abbrev pub invariant-loop-f : goal.invariant-loop-f
invariant-loop-f l = record {
  total : l.sum ≡ sum (map (markedness_above l.faith l.s) (filter (is_faithfulness l.faith) (numbers_below l.f)));
  small : l.sum ≤ 64 * l.f;
}
