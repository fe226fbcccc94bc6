use Rattle.ot_theory.proofs.Entailing.{entails-by_negation}
use Rattle.ot_theory.proofs.laws.entailed_by_negation.Goals as goal

pub returns : goal.returns
returns c = λ n set marks width. entails-by_negation n set marks width
