-- The place is among the steps of this worker, or those of one worker more are passed.
use Rattle.std.proofs.Common.{◌≡◌, ℕ, ◌∙◌, ap, sym, arith, length, flat_map}
use Rattle.std.proofs.lemmas.Option.{slice_get_past}
use Rattle.ot_theory.specs.Rankings.{numbers_below}
use Rattle.search_schedule.specs.Schedules.{enabled_of, enabled_steps}
use Rattle.search_schedule.proofs.Places.{flat-more, flat-place}
use Rattle.search_schedule.proofs.choosing.nth_enabled.Goals as goal

pub returns-then-left-enabled-clause-step : goal.returns-then-left-enabled-clause-step
returns-then-left-enabled-clause-step c =
    let s = c.args.machine.now.state in
    c.nth_of.ensures.step ∙ sym (flat-place (enabled_of s) (length s.hands) c.loop-w.w c.args.place c.loop-w.left (omega (arith, c.loop-w-test.true, c.workers-w-end.ensures.hands)) (omega (arith, c.if-left-enabled.true, c.enabled_of-enabled.ensures.enabled)) c.loop-w.invariant)

pub loop-w-preserved : goal.loop-w-preserved
loop-w-preserved c = omega (arith, c.loop-w.invariant, flat-more (enabled_of c.args.machine.now.state) c.loop-w.w, c.enabled_of-enabled.ensures.enabled, c.if-left-enabled.false)

pub returns-clause-step : goal.returns-clause-step
returns-clause-step c =
    let s = c.args.machine.now.state in
    let all : c.loop-w.w ≡ length s.hands = omega (arith, c.loop-w-test.false, c.loop-w.auto.w-end, c.workers-w-end.ensures.hands) in
    sym (slice_get_past (enabled_steps s) c.args.place (omega (arith, c.loop-w.invariant, ap (λ (k : ℕ). length (flat_map (enabled_of s) (numbers_below k))) all)))
