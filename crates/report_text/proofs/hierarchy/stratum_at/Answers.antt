use Rattle.std.proofs.Common.{◌≡◌, get_or}
use Rattle.std.proofs.lemmas.Bool.{eq-eqb, ne_eqb}
use Rattle.report_text.proofs.Spaced.{IsStratumBehind-in, IsStratumBehind-out, IsStratumBehind-none}
use Rattle.report_text.proofs.hierarchy.stratum_at.Goals as goal
use Rattle.report_text.proofs.hierarchy.stratum_at.Goals.{then-level, else-level}

pub loop-c-init : goal.loop-c-init
loop-c-init c = IsStratumBehind-none c.args.strata.now c.args.level c.args.start c.args.bytes.now

pub loop-c-preserved : goal.loop-c-preserved
loop-c-preserved c =
    let levels = c.args.strata.now in
    let s = c.args.level in
    let k = c.loop-c.c in
    elim c.if-level.branch [
      | then-level w ↦
          let here : get_or levels k 0 ≡ s = cc in
          rw (w.end-is, w.bytes-is) (IsStratumBehind-in levels s k c.args.start c.loop-c.end w.number_at-end.result c.args.bytes.now c.loop-c.bytes w.number_at-end.new.bytes (eq-eqb (get_or levels k 0) s here) w.number_at-end.ensures.long w.number_at-end.ensures.some w.number_at-end.ensures.ends w.number_at-end.ensures.written c.loop-c.invariant)
      | else-level w ↦
          let other : get_or levels k 0 ≡ s → ⊥ = rw c.level.ensures at w.if-level.false in
          rw (w.end-is, w.bytes-is) (IsStratumBehind-out levels s k c.args.start c.loop-c.end c.args.bytes.now c.loop-c.bytes (ne_eqb (get_or levels k 0) s other) c.loop-c.invariant)
    ]
