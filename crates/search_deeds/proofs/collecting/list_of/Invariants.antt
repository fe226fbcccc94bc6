use Rattle.std.proofs.Common.{◌≡◌}
use Rattle.search_deeds.proofs.collecting.list_of.Given as goal

-- the items so far
abbrev pub invariant-loop-item : goal.invariant-loop-item
invariant-loop-item g l = l.list ≡ l.yielded
