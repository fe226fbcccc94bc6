use Rattle.std.proofs.Common.{◌≡◌, Bool, arith, refl, sym, ◌∙◌, ap, false, true, not, get_or, slice_index}
use Rattle.ot_theory.specs.Demotion.{level_after}
use Rattle.ot_theory.proofs.Demotion.{level_kept}
use Rattle.ot_theory.proofs.Placing.{ArePlaced-past, ArePlaced-free}
use Rattle.biased_demotion.proofs.Rounds.{left_by, left_flag}
use Rattle.biased_demotion.proofs.strata.place.Goals as goal
use Rattle.biased_demotion.proofs.strata.place.Goals.{then-levels-c-eq0+then-has_bit, else-levels-c-eq0, else-levels-c-eq0-via-then-levels-c-eq0+else-has_bit, else-levels-c-eq0-via-else-levels-c-eq0}

pub loop-c-preserved : goal.loop-c-preserved
loop-c-preserved c =
    let flag = left_flag c.args.stratum c.loop-c.c (omega arith) in
    elim c.if-levels-c-eq0.branch [
      | then-levels-c-eq0+then-has_bit w ↦
          let free : get_or (left_by c.args.stratum) c.loop-c.c false ≡ false = flag ∙ ap not (sym w.has_bit.ensures ∙ w.if-has_bit.true) in
          rw (w.levels-is, w.placed-is)
          (ArePlaced-free _ _ _ _ _ _ (omega arith) w.if-levels-c-eq0.true free c.requires.some c.loop-c.invariant)
      | else-levels-c-eq0 w ↦
          rw (w.levels-is, w.placed-is)
          (ArePlaced-past _ _ _ _ _ _ (elim w.else-levels-c-eq0.branch [
            | else-levels-c-eq0-via-then-levels-c-eq0+else-has_bit w' ↦
                let left : get_or (left_by c.args.stratum) c.loop-c.c false ≡ true = flag ∙ ap not (sym w'.has_bit.ensures ∙ w'.if-has_bit.false) in
                rw (w'.if-levels-c-eq0.true, left) refl
            | else-levels-c-eq0-via-else-levels-c-eq0 w' ↦ level_kept _ _ _ w'.if-levels-c-eq0.false
          ]) c.loop-c.invariant)
    ]

pub returns-clause-each : goal.returns-clause-each
returns-clause-each c = λ k below.
    c.loop-c.invariant.done k (omega arith) ∙ ap (λ (b : Bool). level_after (slice_index c.args.levels.now k) b c.args.given) (left_flag c.args.stratum k (omega arith))
