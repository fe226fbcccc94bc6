-- Each prefix waits, or is still in the list.
use Rattle.std.proofs.Common.{◌≡◌, ◌+◌, ◌++◌, ℕ, List, length}
use Rattle.search_deeds.specs.Deeds.{times}
use Rattle.typology_workers.proofs.parting.add_prefixes.Given as goal

abbrev pub invariant-loop-prefix : goal.invariant-loop-prefix
invariant-loop-prefix l = (p : List ℕ) → times p l.waiting.items + times p l.prefixes ≡ times p (l.initial.waiting.items ++ l.initial.prefixes)

abbrev pub decreases-loop-prefix : goal.decreases-loop-prefix
decreases-loop-prefix l = length l.prefixes
