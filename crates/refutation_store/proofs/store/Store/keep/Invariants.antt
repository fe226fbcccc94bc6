use Rattle.std.proofs.Common.{◌-◌, length}
use Rattle.refutation_store.specs.Fronts.{Learns, NotMet}
use Rattle.refutation_store.proofs.store.Store.keep.Given as goal

abbrev pub invariant-loop-self : goal.invariant-loop-self
invariant-loop-self l = Learns l.initial.f l.f × NotMet l.c (length l.initial.f.values) l.f.values

abbrev pub decreases-loop-self : goal.decreases-loop-self
decreases-loop-self l = length l.self - length l.f.values
