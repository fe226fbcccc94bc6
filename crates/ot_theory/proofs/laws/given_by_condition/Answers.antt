use Rattle.std.proofs.Common.{sym}
use Rattle.ot_theory.proofs.Pairs.{pair-kept}
use Rattle.ot_theory.proofs.laws.given_by_condition.Goals as goal

pub returns : goal.returns
returns c = λ n order pair ranking p. sym (pair-kept n order pair ranking p)
