use Rattle.t_orders.proofs.OneLanguage.{one_language}
use Rattle.t_orders.proofs.laws.one_language_for_each_ranking.Goals as goal

pub returns : goal.returns
returns c = λ problem order well ranking kept. one_language problem order well ranking kept
