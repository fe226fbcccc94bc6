-- as many of them so far
use Rattle.std.proofs.Common.{◌≡◌, [], replicate}
use Rattle.search_machine.proofs.machine.no_deeds.Given as goal

abbrev pub invariant-loop : goal.invariant-loop
invariant-loop l = l.deeds.items ≡ replicate l.counter []
