-- The schedule of a number: at each moment, one of the steps that are enabled is drawn.
use Rattle.std.specs.Prelude.{◌≡◌, ℕ, ◌-◌, ◌^◌, min, List, [], ◌∷◌, ◌++◌, length, map, flat_map, count_by, slice_get, Some}
use Rattle.std.specs.List.{filter}
use Rattle.number_draws.specs.Draws.{drawn_below, next_state}
use Rattle.ot_theory.specs.Rankings.{numbers_below}
use Rattle.ot_theory.specs.Problems.{Problem}
use Rattle.search_machine.specs.Machine.{Leads, State, is_enabled, is_learn, start}
use Rattle.search_machine.specs.declared.step.Step.{Step}
use Rattle.search_machine.specs.declared.step.Step.TheVariants.{Take, Steal, Consult, Learn, Settle, Put}

-- the steps of a worker, where there are so many workers
abbrev pub steps_of : ℕ → ℕ → List Step
steps_of workers w = Take w ∷ map (λ v. Steal w v) (numbers_below workers) ++ Consult w ∷ Learn w ∷ Settle w ∷ Put w ∷ []

-- those of them that are enabled
abbrev pub enabled_of : State → ℕ → List Step
enabled_of state w = filter (is_enabled state) (steps_of (length state.hands) w)

-- the steps that are enabled, by worker
abbrev pub enabled_steps : State → List Step
enabled_steps state = flat_map (enabled_of state) (numbers_below (length state.hands))

-- A generator in this state draws this step among them.
abbrev pub IsDrawn : ℕ → State → Step → Type 0
IsDrawn draws state step = slice_get (enabled_steps state) (drawn_below (length (enabled_steps state)) draws) ≡ Some step

-- Each step of a list is drawn when its turn comes. So they lead from one state to another, and the generator to its last state.
abbrev pub AreDrawn : Problem → ℕ → ℕ → State → List Step → ℕ → State → Type 0
AreDrawn problem places draws before [] last after = (last ≡ draws) × (after ≡ before)
AreDrawn problem places draws before (step ∷ steps) last after =
    (between : State) × IsDrawn draws before step × Leads problem places before step between × AreDrawn problem places (next_state draws) between steps last after

-- how many of some steps are Learn steps, as a count that stays at 2^64 - 1 once it is there
abbrev pub learns_among : List Step → ℕ
learns_among steps = min (count_by is_learn steps) (2 ^ 64 - 1)

-- The run of the schedule of a number: steps that are drawn from the start on, until no step is enabled. It comes to this state, and
-- so many of its steps are Learn steps.
pub record IsRunOf (problem : Problem) (workers places number : ℕ) (state : State) (learns : ℕ) : Type 0 where
  pub steps : List Step
  pub last : ℕ
  pub drawn : AreDrawn problem places number (start workers) steps last state
  pub ended : enabled_steps state ≡ []
  pub counted : learns ≡ learns_among steps

-- So many of the steps of the schedule of a number are Learn steps.
abbrev pub CountsLearns : Problem → ℕ → ℕ → ℕ → ℕ → Type 0
CountsLearns problem workers places number learns = (state : State) × IsRunOf problem workers places number state learns
