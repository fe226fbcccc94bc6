-- The pair of a number is one of the problem's.
use Rattle.std.proofs.Common.{◌∙◌, sym}
use Rattle.ot_theory.specs.Problems.{givens}
use Rattle.violation_profiles.proofs.Pairs.{condition-given, pair_at, IsPair-at}
use Rattle.violation_profiles.proofs.problem.Problem.given_condition.Goals as goal

pub over-requires-clause-pair : goal.over-requires-clause-pair
over-requires-clause-pair c =
    let problem = c.args.self.now in
    rw c.constraints.ensures.value (IsPair-at problem.constraints (givens problem) c.args.k _ c.constraints.ensures.well_formed.pairs (pair_at c.givens.result.now (givens problem) c.args.k _ c.givens.ensures.value c.requires))

pub returns-clause-marks : goal.returns-clause-marks
returns-clause-marks c =
    let problem = c.args.self.now in
    c.over.ensures.marks ∙ rw c.constraints.ensures.value (sym (condition-given problem c.args.k _ (pair_at c.givens.result.now (givens problem) c.args.k _ c.givens.ensures.value c.requires)))
