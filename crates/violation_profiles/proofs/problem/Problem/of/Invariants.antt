use Rattle.std.proofs.Common.{◌≡◌, map, take}
use Rattle.ot_base.specs.Tableaus.{input_of_rows}
use Rattle.violation_profiles.proofs.problem.Problem.of.Given as goal

abbrev pub invariant-loop-rows : goal.invariant-loop-rows
invariant-loop-rows l = l.inputs ≡ map input_of_rows (take l.rows-index l.rows-items)
