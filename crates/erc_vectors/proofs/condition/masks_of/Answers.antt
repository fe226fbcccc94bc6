use Rattle.std.proofs.Common.{arith, refl, ap, ◌∙◌}
use Rattle.std.proofs.lemmas.List.{get_or_default}
use Rattle.ot_theory.specs.declared.Mark.TheVariants.{W, E}
use Rattle.ot_theory.specs.Conditions.{is_win, is_loss}
use Rattle.erc_vectors.proofs.Bits.{IsMask-set, IsMask-kept}
use Rattle.erc_vectors.proofs.condition.masks_of.Goals as goal
use Rattle.erc_vectors.proofs.condition.masks_of.Goals.{in-W, in-L, in-E}

pub loop-k-preserved : goal.loop-k-preserved
loop-k-preserved c =
    let marks = c.args.marks.now in
    let k = c.loop-k.k in
    let within = c.loop-k-test.true in
    elim c.match-mark.branch [
      | in-W w ↦
          let here = get_or_default marks k E W within ∙ w.in-W.is in
          record {
            wins = rw w.wins-is (IsMask-set is_win marks k _ within (omega arith) (ap is_win here) c.loop-k.invariant.wins);
            losses = rw w.losses-is (IsMask-kept is_loss marks k _ refl within (ap is_loss here) c.loop-k.invariant.losses);
          }
      | in-L w ↦
          let here = get_or_default marks k E W within ∙ w.in-L.is in
          record {
            wins = rw w.wins-is (IsMask-kept is_win marks k _ refl within (ap is_win here) c.loop-k.invariant.wins);
            losses = rw w.losses-is (IsMask-set is_loss marks k _ within (omega arith) (ap is_loss here) c.loop-k.invariant.losses);
          }
      | in-E w ↦
          let here = get_or_default marks k E W within ∙ w.in-E.is in
          record {
            wins = rw w.wins-is (IsMask-kept is_win marks k _ refl within (ap is_win here) c.loop-k.invariant.wins);
            losses = rw w.losses-is (IsMask-kept is_loss marks k _ refl within (ap is_loss here) c.loop-k.invariant.losses);
          }
    ]
