-- A step that is enabled is passed, or it is the one at the place.
use Rattle.std.proofs.Common.{◌∙◌, ap, sym, arith}
use Rattle.search_schedule.proofs.Counting.{step-found, step-passed, steps-passed}
use Rattle.search_schedule.proofs.Places.{bit}
use Rattle.search_schedule.proofs.choosing.nth_of.Goals as goal
use Rattle.search_schedule.proofs.choosing.nth_of.Goals.{then-enabled+else-left-eq0, else-enabled}

pub loop-k-init : goal.loop-k-init
loop-k-init c = omega (arith, c.first_of-first.ensures.none)

pub returns-then-left-eq0-clause-step : goal.returns-then-left-eq0-clause-step
returns-then-left-eq0-clause-step c =
    step-found c.args.machine.now.state c.workers-workers.result c.args.w c.loop-k.k c.args.place c.loop-k.left c.step_at-step.result c.workers-workers.ensures.hands c.step_at-step.ensures (sym c.enabled.ensures ∙ c.if-enabled.true) c.loop-k.invariant c.if-left-eq0.true

pub loop-k-preserved : goal.loop-k-preserved
loop-k-preserved c =
    let s = c.args.machine.now.state in
    elim c.if-enabled.branch [
      | then-enabled+else-left-eq0 w ↦ step-passed s c.workers-workers.result c.args.w c.loop-k.k c.args.place c.loop-k.left c.if-enabled.left c.step_at-step.result c.workers-workers.ensures.hands c.step_at-step.ensures c.loop-k.invariant
          (omega (arith, w.left-is, w.if-left-eq0.false, ap bit (sym c.enabled.ensures ∙ w.if-enabled.true)))
      | else-enabled w ↦ step-passed s c.workers-workers.result c.args.w c.loop-k.k c.args.place c.loop-k.left c.if-enabled.left c.step_at-step.result c.workers-workers.ensures.hands c.step_at-step.ensures c.loop-k.invariant
          (omega (arith, w.left-is, ap bit (sym c.enabled.ensures ∙ w.if-enabled.false)))
    ]

pub returns-clause-step : goal.returns-clause-step
returns-clause-step c =
    steps-passed c.args.machine.now.state c.args.w c.loop-k.k c.args.place c.loop-k.left (omega (arith, c.loop-k-test.false, c.workers-workers.ensures.hands)) c.loop-k.invariant
