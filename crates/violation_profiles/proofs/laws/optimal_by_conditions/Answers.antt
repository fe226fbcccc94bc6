use Rattle.ot_theory.proofs.Optimal.{optimal-conditions}
use Rattle.violation_profiles.proofs.Inputs.{AreClasses-at}
use Rattle.violation_profiles.proofs.laws.optimal_by_conditions.Goals as goal

pub returns : goal.returns
returns c = λ problem order i a h ranking input class. optimal-conditions problem.constraints order _ a ranking (AreClasses-at problem.constraints problem.inputs i h.each input) class
