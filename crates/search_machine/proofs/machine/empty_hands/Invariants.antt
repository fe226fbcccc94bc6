-- as many of them so far
use Rattle.std.proofs.Common.{◌≡◌, None, replicate}
use Rattle.search_machine.proofs.machine.empty_hands.Given as goal

abbrev pub invariant-loop : goal.invariant-loop
invariant-loop l = l.hands.items ≡ replicate l.counter None
