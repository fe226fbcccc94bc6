use Rattle.typology_workers.specs.Stays.{KeepsSeat}
use Rattle.typology_workers.specs.Turns.{HasMissed}
use Rattle.typology_workers.proofs.getting.steal.Given as goal

abbrev pub invariant-loop-victim : goal.invariant-loop-victim
invariant-loop-victim l = HasMissed l.from l.victim l.initial.seat l.seat × KeepsSeat l.initial.seat l.seat
