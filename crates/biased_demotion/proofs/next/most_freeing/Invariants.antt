-- the first of the constraints so far that makes the greatest number of markedness constraints free
use Rattle.demotion.specs.Placed.{has_bit}
use Rattle.biased_demotion.specs.Shown.{freed_in}
use Rattle.biased_demotion.proofs.Greatest.{IsGreatestSoFar}
use Rattle.biased_demotion.proofs.next.most_freeing.Given as goal

abbrev pub invariant-loop-c : goal.invariant-loop-c
invariant-loop-c l = IsGreatestSoFar l.c (has_bit l.candidates) (freed_in l.markedness l.placed l.set) l.best l.most
