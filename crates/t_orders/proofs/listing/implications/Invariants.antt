-- the implications from the inputs so far
use Rattle.std.proofs.Common.{◌≡◌, flat_map}
use Rattle.ot_theory.specs.Rankings.{numbers_below}
use Rattle.t_orders.proofs.Listed.{from_input}
use Rattle.t_orders.proofs.listing.implications.Given as goal

abbrev pub invariant-loop-i : goal.invariant-loop-i
invariant-loop-i l = l.listed ≡ flat_map (from_input l.p) (numbers_below l.i)
