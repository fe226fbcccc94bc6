use Rattle.search_rows.specs.Stays.{ArePair}
use Rattle.search_rows.proofs.deques.goes.Given as goal

abbrev pub invariant-loop-step : goal.invariant-loop-step
invariant-loop-step l = ArePair l.first l.second
