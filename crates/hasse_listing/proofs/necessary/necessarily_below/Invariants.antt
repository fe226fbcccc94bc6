-- the rounds so far, in which c is held back
use Rattle.std.proofs.Common.{◌∷◌, ◌-◌}
use Rattle.demotion.proofs.Stuck.{IsPlaced}
use Rattle.hasse_listing.proofs.Pairs.{alone}
use Rattle.hasse_listing.proofs.necessary.necessarily_below.Given as goal

abbrev pub invariant-loop-placed : goal.invariant-loop-placed
invariant-loop-placed l = IsPlaced l.n (alone l.n l.c ∷ l.set) l.placed

abbrev pub decreases-loop-placed : goal.decreases-loop-placed
decreases-loop-placed l = 18446744073709551615 - l.placed
