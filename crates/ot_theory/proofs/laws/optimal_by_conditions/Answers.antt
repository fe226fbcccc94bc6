use Rattle.ot_theory.proofs.Classes.{AreClasses-classes_of}
use Rattle.ot_theory.proofs.Optimal.{optimal-conditions}
use Rattle.ot_theory.proofs.laws.optimal_by_conditions.Goals as goal

pub returns : goal.returns
returns c = λ n order profiles a ranking wide below. optimal-conditions n order _ a ranking (AreClasses-classes_of n profiles wide) below
