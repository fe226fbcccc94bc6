use Rattle.std.proofs.Common.{◌∙◌, sym, ap}
use Rattle.std.proofs.lemmas.Nat.Bits.{bit_at-zero}
use Rattle.ot_theory.specs.Demotion.{is_open}
use Rattle.demotion.specs.Placed.{levels_of}
use Rattle.biased_demotion.proofs.Opened.{losses-open, losses-shut, wins-open, wins-shut}
use Rattle.biased_demotion.proofs.next.open_marks.Goals as goal
use Rattle.biased_demotion.proofs.next.open_marks.Goals.{then-opens, else-opens}

pub loop-condition-init : goal.loop-condition-init
loop-condition-init c = record { losses = bit_at-zero; wins = bit_at-zero }

pub loop-condition-preserved : goal.loop-condition-preserved
loop-condition-preserved c =
    let set = c.args.set.now in
    let levels = levels_of c.args.placed in
    let k = c.loop-condition.condition-index in
    let d = c.condition-item.result in
    let within = c.loop-condition-test.true in
    elim c.if-opens.branch [
      | then-opens w ↦
          let opened = ap (is_open levels) (sym c.condition-item.is) ∙ sym c.opens.ensures ∙ w.if-opens.true in
          record {
            losses = rw w.losses-is (losses-open levels set k _ _ d within (rw (← c.condition-item.is) w.l_mask-losses.ensures.mask) opened c.loop-condition.invariant.losses);
            wins = rw w.wins-is (wins-open levels set k _ _ d within (rw (← c.condition-item.is) w.w_mask-wins.ensures.mask) opened c.loop-condition.invariant.wins);
          }
      | else-opens w ↦
          let shut = ap (is_open levels) (sym c.condition-item.is) ∙ sym c.opens.ensures ∙ w.if-opens.false in
          record {
            losses = rw w.losses-is (losses-shut levels set k _ d within shut c.loop-condition.invariant.losses);
            wins = rw w.wins-is (wins-shut levels set k _ d within shut c.loop-condition.invariant.wins);
          }
    ]
