-- The next queue is counted if it is filled.
use Rattle.std.proofs.Common.{◌≡◌, ◌+◌, ◌∙◌, ap, arith, refl}
use Rattle.search_machine.specs.Machine.{is_filled}
use Rattle.search_schedule.proofs.Counting.{count-next}
use Rattle.search_schedule.proofs.Places.{bit, bit-few}
use Rattle.search_schedule.proofs.choosing.filled_queues.Goals as goal

pub loop-v-preserved : goal.loop-v-preserved
loop-v-preserved c =
    let test = is_filled c.args.machine.now.state.queues in
    let one : c.one_if-filled.result ≡ bit (test c.loop-v.v) = c.one_if-filled.ensures ∙ ap bit c.is_filled.ensures in
    record {
      counted = omega (arith, one, c.loop-v.invariant.counted, count-next test c.loop-v.v (c.loop-v.v + 1) refl);
      few = omega (arith, one, c.loop-v.invariant.few, bit-few (test c.loop-v.v));
    }
