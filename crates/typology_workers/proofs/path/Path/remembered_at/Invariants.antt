use Rattle.std.proofs.Common.{◌≤◌}
use Rattle.typology_workers.proofs.path.Path.remembered_at.Given as goal

abbrev pub invariant-loop-k : goal.invariant-loop-k
invariant-loop-k l = l.before ≤ l.k
