use Rattle.std.proofs.Common.{arith}
use Rattle.std.proofs.lemmas.List.{take_all}
use Rattle.violation_profiles.proofs.Acceptable.{IsWellFormed-problem_of}
use Rattle.violation_profiles.proofs.problem.Problem.of.Goals as goal

pub invariant_of-result : goal.invariant_of-result
invariant_of-result c =
    rw (c.len.ensures, c.loop-rows.invariant, take_all c.loop-rows.rows-index c.as_slice-rows-items.result.now (omega arith), c.as_slice-rows-items.ensures)
    (IsWellFormed-problem_of c.args.tableau.now c.requires)
