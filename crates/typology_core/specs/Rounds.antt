-- The search of one worker: a run of the machine that is made of rounds.
use Rattle.std.specs.Prelude.{◌≡◌, ℕ, false, List, [], ◌∷◌, ◌++◌, flat_map}
use Rattle.ot_theory.specs.Problems.{Problem}
use Rattle.search_machine.specs.Machine.{IsFinished, Leads, State, is_enabled, start}
use Rattle.search_machine.specs.declared.step.Step.{Step}
use Rattle.search_machine.specs.declared.step.Step.TheVariants.{Take, Consult, Learn, Settle, Put}
use Rattle.search_schedule.specs.Schedules.{learns_among}

-- These steps are one step, made again and again as long as it is enabled.
abbrev pub IsRepeated : Problem → ℕ → Step → State → List Step → State → Type 0
IsRepeated problem places step before [] after = (is_enabled before step ≡ false) × (after ≡ before)
IsRepeated problem places step before (next ∷ steps) after =
    (next ≡ step) × (between : State) × Leads problem places before step between × IsRepeated problem places step between steps after

-- These steps are one step, made once where it is enabled, and none where it is not.
abbrev pub IsMadeWhereEnabled : Problem → ℕ → Step → State → List Step → State → Type 0
IsMadeWhereEnabled problem places step before [] after = (is_enabled before step ≡ false) × (after ≡ before)
IsMadeWhereEnabled problem places step before (next ∷ steps) after = (next ≡ step) × (steps ≡ []) × Leads problem places before step after

-- The steps of a round: Take; Consult while it is enabled; Learn if the mark is still Unknown, which is where it is enabled; Settle;
-- and Put until the outbox is empty, which is while it is enabled.
pub record IsRound (problem : Problem) (places : ℕ) (before : State) (steps : List Step) (after : State) : Type 0 where
  pub taken : State
  pub consulted : State
  pub learnt : State
  pub settled : State
  pub consults : List Step
  pub learns : List Step
  pub puts : List Step
  pub take : Leads problem places before (Take 0) taken
  pub consult : IsRepeated problem places (Consult 0) taken consults consulted
  pub learn : IsMadeWhereEnabled problem places (Learn 0) consulted learns learnt
  pub settle : Leads problem places learnt (Settle 0) settled
  pub put : IsRepeated problem places (Put 0) settled puts after
  pub whole : steps ≡ Take 0 ∷ consults ++ (learns ++ Settle 0 ∷ puts)

-- rounds, one after another, until the machine is finished
abbrev pub AreRounds : Problem → ℕ → State → List (List Step) → State → Type 0
AreRounds problem places before [] after = IsFinished before × (after ≡ before)
AreRounds problem places before (round ∷ rounds) after =
    (between : State) × IsRound problem places before round between × AreRounds problem places between rounds after

-- The run of one worker: rounds from the start on. It comes to this state, and so many of its steps are Learn steps.
pub record IsLoneRun (problem : Problem) (places : ℕ) (state : State) (learns : ℕ) : Type 0 where
  pub rounds : List (List Step)
  pub made : AreRounds problem places (start 1) rounds state
  pub counted : learns ≡ learns_among (flat_map (λ round. round) rounds)

-- So many of the steps of the run of one worker are Learn steps.
abbrev pub CountsLoneLearns : Problem → ℕ → ℕ → Type 0
CountsLoneLearns problem places learns = (state : State) × IsLoneRun problem places state learns
