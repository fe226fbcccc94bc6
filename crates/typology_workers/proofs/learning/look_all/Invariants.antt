use Rattle.std.proofs.Common.{◌≡◌, ◌-◌, length}
use Rattle.typology_workers.specs.Stays.{KeepsFront}
use Rattle.typology_workers.proofs.learning.look_all.Given as goal

abbrev pub invariant-loop : goal.invariant-loop
invariant-loop l = KeepsFront (length l.store) l.initial.front l.front × (l.front.misses ≡ l.initial.front.misses)

abbrev pub decreases-loop : goal.decreases-loop
decreases-loop l = length l.store - length l.front.values
