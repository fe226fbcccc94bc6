use Rattle.std.proofs.Common.{◌≡◌, true, false, cond, arith, refl}
use Rattle.biased_demotion.specs.Biased.{is_faithfulness}
use Rattle.biased_demotion.specs.Measure.{markedness_above}
use Rattle.biased_demotion.proofs.Measured.{sum_more}
use Rattle.biased_demotion.proofs.measure.r_measure.Goals as goal
use Rattle.biased_demotion.proofs.measure.r_measure.Goals.{then-faith-f, else-faith-f}

pub loop-f-preserved : goal.loop-f-preserved
loop-f-preserved c =
    let more = sum_more (is_faithfulness c.args.faith.now) (markedness_above c.args.faith.now c.args.s.now) c.loop-f.f in
    elim c.if-faith-f.branch [
      | then-faith-f w ↦
          let yes : is_faithfulness c.args.faith.now c.loop-f.f ≡ true = w.if-faith-f.true in
          let here : cond (is_faithfulness c.args.faith.now c.loop-f.f) (markedness_above c.args.faith.now c.args.s.now c.loop-f.f) 0 ≡ markedness_above c.args.faith.now c.args.s.now c.loop-f.f = rw yes refl in
          record {
            total = omega (arith, w.sum-is, more, here, c.loop-f.invariant.total, w.markedness_above-sum.ensures.number);
            small = omega (arith, w.sum-is, c.loop-f.invariant.small, w.markedness_above-sum.ensures.small);
          }
      | else-faith-f w ↦
          let no : is_faithfulness c.args.faith.now c.loop-f.f ≡ false = w.if-faith-f.false in
          let here : cond (is_faithfulness c.args.faith.now c.loop-f.f) (markedness_above c.args.faith.now c.args.s.now c.loop-f.f) 0 ≡ 0 = rw no refl in
          record {
            total = omega (arith, w.sum-is, more, here, c.loop-f.invariant.total);
            small = omega (arith, w.sum-is, c.loop-f.invariant.small);
          }
    ]
