-- as many of them so far
use Rattle.std.proofs.Common.{◌≡◌, [], replicate}
use Rattle.search_machine.proofs.machine.no_prefixes.Given as goal

abbrev pub invariant-loop : goal.invariant-loop
invariant-loop l = l.queues.items ≡ replicate l.counter []
