use Rattle.search_rows.specs.Stays.{IsSame}
use Rattle.search_rows.proofs.deques.turns.Given as goal

abbrev pub invariant-loop-put : goal.invariant-loop-put
invariant-loop-put l = IsSame l.initial.hand.seat l.hand.seat
