-- Problems within the limits, and prefixes of their choices.
use Rattle.std.specs.Prelude.{ℕ, ◌<◌, ◌≤◌, List, length, slice_index, All, IfSome, ◌≡◌}
use Rattle.erc_vectors.specs.declared.condition.TheConstants.{LIMIT}
use Rattle.ot_base.specs.declared.limits.TheConstants.{INPUT_LIMIT, CANDIDATE_LIMIT, GIVEN_LIMIT}
use Rattle.ot_theory.specs.Problems.{Problem, Input, AreClasses, IsPair, givens}
use Rattle.ot_theory.specs.Languages.{classes_at}

-- classes of n constraints each, at least one, no two of them alike, with the members of each; the winner is one of them
pub record IsWellFormedInput (n : ℕ) (input : Input) : Type 0 where
  pub some : 1 ≤ length input.classes
  pub few : length input.classes ≤ CANDIDATE_LIMIT
  pub classes : AreClasses n input.classes
  pub members : length input.members ≡ length input.classes
  pub winner : IfSome input.winner (λ a. a < length input.classes)

-- a problem within the limits
pub record IsWellFormed (problem : Problem) : Type 0 where
  pub constraints : problem.constraints ≤ LIMIT
  pub inputs : length problem.inputs ≤ INPUT_LIMIT
  pub each : All (IsWellFormedInput problem.constraints) problem.inputs
  pub few_pairs : length (givens problem) ≤ GIVEN_LIMIT
  pub pairs : All (IsPair problem.constraints) (givens problem)

-- the first classes of a choice: each is a class of its input
pub record IsPrefix (problem : Problem) (prefix : List ℕ) : Type 0 where
  pub short : length prefix ≤ length problem.inputs
  pub within : (i : ℕ) → i < length prefix → slice_index prefix i < length (classes_at problem i)
