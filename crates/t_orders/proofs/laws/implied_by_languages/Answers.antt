use Rattle.t_orders.proofs.ReadOff as read
use Rattle.t_orders.proofs.laws.implied_by_languages.Goals as goal

pub returns : goal.returns
returns c = λ problem from to well i j. read.implied_by_languages problem from to well i j
