-- Those of one worker more; and where there is none, nothing waits.
use Rattle.std.proofs.Common.{◌≡◌, ℕ, ◌∙◌, ap, sym, arith, length, flat_map}
use Rattle.ot_theory.specs.Rankings.{numbers_below}
use Rattle.search_schedule.specs.Schedules.{enabled_of, enabled_steps}
use Rattle.search_schedule.proofs.Places.{flat-more, nil}
use Rattle.search_schedule.proofs.Runs.{ended-empty}
use Rattle.search_schedule.proofs.choosing.enabled_steps.Goals as goal

pub loop-w-preserved : goal.loop-w-preserved
loop-w-preserved c = record {
  counted = omega (arith, c.loop-w.invariant.counted, flat-more (enabled_of c.args.machine.now.state) c.loop-w.w, c.enabled_of-enabled.ensures.enabled);
  few = omega (arith, c.loop-w.invariant.few, c.enabled_of-enabled.ensures.few);
}

pub returns-clause-empty : goal.returns-clause-empty
returns-clause-empty c e =
    let s = c.args.machine.now.state in
    let all : c.loop-w.w ≡ length s.hands = omega (arith, c.loop-w-test.false, c.loop-w.auto.w-end, c.workers-w-end.ensures.hands) in
    let none : length (enabled_steps s) ≡ 0 = omega (arith, e, c.loop-w.invariant.counted, ap (λ (k : ℕ). length (flat_map (enabled_of s) (numbers_below k))) all) in
    ended-empty s (sym c.workers-w-end.ensures.queues ∙ c.workers-w-end.ensures.hands) (sym c.workers-w-end.ensures.outboxes ∙ c.workers-w-end.ensures.hands) (nil (enabled_steps s) none)
