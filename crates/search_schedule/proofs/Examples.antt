-- The first step of the schedule of 0 with three workers.
use Rattle.std.proofs.Common.{◌≡◌, [], ◌∷◌, refl}
use Rattle.search_machine.specs.Machine.{start}
use Rattle.search_machine.specs.declared.step.Step.TheVariants.{Take, Steal}
use Rattle.search_schedule.specs.Schedules.{IsDrawn, enabled_steps}

pub at-the-start : enabled_steps (start 3) ≡ Take 0 ∷ Steal 1 0 ∷ Steal 2 0 ∷ []
at-the-start = refl

pub first-step : IsDrawn 0 (start 3) (Steal 2 0)
first-step = refl
