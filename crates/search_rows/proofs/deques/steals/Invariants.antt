use Rattle.search_rows.specs.Stays.{IsSame}
use Rattle.search_rows.proofs.deques.steals.Given as goal

abbrev pub invariant-loop : goal.invariant-loop
invariant-loop l = IsSame l.initial.seat l.seat
