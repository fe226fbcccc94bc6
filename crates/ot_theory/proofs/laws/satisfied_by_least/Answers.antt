use Rattle.ot_theory.proofs.Least.{satisfies-by_least}
use Rattle.ot_theory.proofs.laws.satisfied_by_least.Goals as goal

pub returns : goal.returns
returns c = satisfies-by_least
