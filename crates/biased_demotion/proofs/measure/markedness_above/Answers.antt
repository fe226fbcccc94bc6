use Rattle.std.proofs.Common.{◌≡◌, ◌&&◌, ℕ, Bool, true, false, not, cond, arith, ap, ◌∙◌, get_or, slice_index, refl}
use Rattle.std.specs.Prelude.{nat_lt}
use Rattle.std.proofs.lemmas.Bool.{lt-ltb, le-ltb, and_from, and_left, and_right}
use Rattle.std.proofs.lemmas.List.{get_or_default}
use Rattle.biased_demotion.specs.Biased.{is_markedness}
use Rattle.biased_demotion.proofs.Measured.{count_more}
use Rattle.biased_demotion.proofs.measure.markedness_above.Goals as goal
use Rattle.biased_demotion.proofs.measure.markedness_above.Goals.{then-not-faith-m+then-level, else-not-faith-m, else-not-faith-m-via-then-not-faith-m+else-level, else-not-faith-m-via-else-not-faith-m}

pub loop-m-preserved : goal.loop-m-preserved
loop-m-preserved c =
    let test : ℕ → Bool = λ m. is_markedness c.args.faith.now m && nat_lt (slice_index c.args.s.now m) (slice_index c.args.s.now c.args.f.0) in
    let m : ℕ = c.loop-m.m in
    let more = count_more test m in
    let kind : is_markedness c.args.faith.now m ≡ not (get_or c.args.faith.now m false) = ap not (get_or_default c.args.faith.now m true false (omega (arith, c.width-m-end.ensures.width, c.requires.same))) in
    elim c.if-not-faith-m.branch [
      | then-not-faith-m+then-level w ↦
          let here : test m ≡ true = and_from _ _ (kind ∙ ap not w.if-not-faith-m.true) (lt-ltb _ _ (omega (arith, w.if-level.true, w.level.ensures, w.level-then-not-faith-m.ensures))) in
          let one : ◌≡◌ {A = ℕ} (cond (test m) 1 0) 1 = rw here refl in
          record {
            number = omega (arith, w.count-is, more, one, c.loop-m.invariant.number);
            small = omega (arith, w.count-is, c.loop-m.invariant.small);
          }
      | else-not-faith-m w ↦
          let here : test m ≡ false = elim w.else-not-faith-m.branch [
            | else-not-faith-m-via-then-not-faith-m+else-level w' ↦ and_right _ _ (le-ltb (slice_index c.args.s.now m) (slice_index c.args.s.now c.args.f.0) (omega (arith, w'.if-level.false, w'.level.ensures, w'.level-then-not-faith-m.ensures)))
            | else-not-faith-m-via-else-not-faith-m w' ↦ and_left _ _ (kind ∙ ap not w'.if-not-faith-m.false)
          ] in
          let none : ◌≡◌ {A = ℕ} (cond (test m) 1 0) 0 = rw here refl in
          record {
            number = omega (arith, w.count-is, more, none, c.loop-m.invariant.number);
            small = omega (arith, w.count-is, c.loop-m.invariant.small);
          }
    ]
