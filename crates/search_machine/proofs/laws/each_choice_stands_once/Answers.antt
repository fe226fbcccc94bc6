use Rattle.search_machine.proofs.Leading.{reached-kept}
use Rattle.search_machine.proofs.Standing.{stands-once}
use Rattle.search_machine.proofs.laws.each_choice_stands_once.Goals as goal

pub returns : goal.returns
returns c = λ problem workers places steps state choice r h. stands-once problem state choice (reached-kept problem workers places steps state r) h
