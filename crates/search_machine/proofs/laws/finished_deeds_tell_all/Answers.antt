use Rattle.search_machine.proofs.Finished.{finished, kept-balanced, kept-honest}
use Rattle.search_machine.proofs.Leading.{reached-kept}
use Rattle.search_machine.proofs.laws.finished_deeds_tell_all.Goals as goal

pub returns-clause-honest : goal.returns-clause-honest
returns-clause-honest c = λ problem workers places steps state r. kept-honest problem state (reached-kept problem workers places steps state r)

pub returns-clause-balanced : goal.returns-clause-balanced
returns-clause-balanced c = λ problem workers places steps state r h.
    let kept = reached-kept problem workers places steps state r in
    kept-balanced problem state kept ((finished state kept.as_many_queues).0 h)
