-- One whose hand is not empty takes and steals nothing.
use Rattle.std.proofs.Common.{◌+◌, ◌∙◌, ap, refl, sym, length, take}
use Rattle.std.specs.Prelude.{count_by}
use Rattle.search_machine.specs.Machine.{is_enabled}
use Rattle.search_schedule.specs.Schedules.{steps_of}
use Rattle.search_schedule.proofs.Counting.{busy-first}
use Rattle.search_schedule.proofs.choosing.first_of.Goals as goal

pub returns-then-is_idle-clause-none : goal.returns-then-is_idle-clause-none
returns-then-is_idle-clause-none c = refl

pub returns-clause-none : goal.returns-clause-none
returns-clause-none c =
    let s = c.args.machine.now.state in
    ap (λ k. count_by (is_enabled s) (take (k + 1) (steps_of (length s.hands) c.args.w))) c.workers-workers.ensures.hands ∙ busy-first s c.args.w (sym c.is_idle.ensures ∙ c.if-is_idle.false)
