use Rattle.ot_theory.proofs.Enumeration.{holds_each, holds_no_other}
use Rattle.ot_theory.proofs.laws.rankings_are_all.Goals as goal

pub returns : goal.returns
returns c = λ n. (holds_each n, holds_no_other n)
