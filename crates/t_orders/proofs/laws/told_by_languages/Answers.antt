use Rattle.t_orders.proofs.Told as told
use Rattle.t_orders.proofs.laws.told_by_languages.Goals as goal

pub returns : goal.returns
returns c = λ problem well. told.told_by_languages problem well
