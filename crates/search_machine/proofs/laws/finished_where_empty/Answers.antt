use Rattle.search_machine.proofs.Finished.{finished}
use Rattle.search_machine.proofs.Leading.{reached-kept}
use Rattle.search_machine.proofs.laws.finished_where_empty.Goals as goal

pub returns : goal.returns
returns c = λ problem workers places steps state r. finished state (reached-kept problem workers places steps state r).as_many_queues
