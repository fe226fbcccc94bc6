use Rattle.std.proofs.Common.{◌≡◌, ◌+◌, ◌++◌, length, map}
use Rattle.search_rows.specs.declared.deques.Hand.{Hand}
use Rattle.search_rows.proofs.deques.ended.Given as goal

abbrev pub invariant-loop : goal.invariant-loop
invariant-loop l =
    (l.seats ++ map (λ (h : Hand). h.seat) l.hands.items ≡ map (λ (h : Hand). h.seat) l.initial.hands.items)
    × (l.counter + length l.hands.items ≡ length l.initial.hands.items)
