-- The problems that a tableau poses: with given pairs or without.
use Rattle.std.specs.Prelude.{◌≡◌, ◌⊎◌, ◌≤◌, List, map, length, All, Option, IfSome}
use Rattle.ot_base.specs.Tableaus.{input_of_rows, problem_of}
use Rattle.ot_base.specs.declared.limits.TheConstants.{GIVEN_LIMIT}
use Rattle.ot_base.specs.declared.tableau.Tableau.{Tableau}
use Rattle.ot_theory.specs.Problems.{IsPair, Pair, Problem, with_given}

-- the problem of the tableau, with these given pairs where there are some
abbrev pub posed : Tableau → Option (List Pair) → Problem
posed tableau given = record { constraints = length tableau.names; inputs = map input_of_rows tableau.inputs; given = given }

-- at most 4,096 pairs of two different constraints, where there are some
abbrev pub ArePairs : Tableau → Option (List Pair) → Type 0
ArePairs tableau given = IfSome given (λ pairs. (length pairs ≤ GIVEN_LIMIT) × All (IsPair (length tableau.names)) pairs)

-- the problem of the tableau, or that with some given pairs
abbrev pub Poses : Tableau → Problem → Type 0
Poses tableau problem = (problem ≡ problem_of tableau) ⊎ ((pairs : List Pair) × (problem ≡ with_given (problem_of tableau) pairs))
