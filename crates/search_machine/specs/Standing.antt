-- Where a choice stands while the machine runs.
use Rattle.std.specs.Prelude.{◌≡◌, ℕ, ◌+◌, ◌≤◌, Bool, List, length, map, take, count_by, nat_eq}
use Rattle.std.specs.Cmp.Lexicographic.{pointwise}
use Rattle.ot_theory.specs.Problems.{Problem}
use Rattle.violation_profiles.specs.WellFormed.{IsPrefix, IsWellFormed}
use Rattle.search_deeds.specs.Deeds.{cuts_in, languages_in, times}
use Rattle.search_machine.specs.Kept.{all_deeds, waiting}
use Rattle.search_machine.specs.Machine.{LeadAll, State, start}
use Rattle.search_machine.specs.declared.step.Step.{Step}

-- a choice stands below a prefix that consists of its first classes
abbrev pub is_below : List ℕ → List ℕ → Bool
is_below choice prefix = pointwise nat_eq (take (length prefix) choice) prefix

-- one class of each input
abbrev pub IsChoice : Problem → List ℕ → Type 0
IsChoice problem choice = IsPrefix problem choice × (length choice ≡ length problem.inputs)

-- The choice stands in exactly one place: below a queued, handed or outboxed prefix, below a Cut deed, or as the prefix of one
-- Language deed.
abbrev pub StandsOnce : State → List ℕ → Type 0
StandsOnce state choice =
    count_by (is_below choice) (waiting state)
    + (count_by (is_below choice) (cuts_in (all_deeds state)) + times choice (map (λ language. language.0) (languages_in (all_deeds state))))
    ≡ 1

-- a state that a list of steps leads to from the start, of one worker or more
pub record IsReachedBy (problem : Problem) (workers places : ℕ) (steps : List Step) (state : State) : Type 0 where
  pub well_formed : IsWellFormed problem
  pub some : 1 ≤ workers
  pub run : LeadAll problem places (start workers) steps state
