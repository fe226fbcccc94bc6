use Rattle.search_rows.proofs.Staying.{pair_out}
use Rattle.search_rows.proofs.deques.pair.Goals as goal

pub returns : goal.returns
returns c = pair_out c.in_ok-seats.seats c.pop.new.self c.pop-2.new.self c.in-Some-pop.first c.in-Some.second c.in_ok-seats.ensures.new c.in-Some.ensures c.in-Some-pop.ensures
