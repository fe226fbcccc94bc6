use Rattle.t_orders.proofs.ReadOff as read
use Rattle.t_orders.proofs.laws.possible_by_languages.Goals as goal

pub returns : goal.returns
returns c = λ problem output well below. read.possible_by_languages problem output well below
