-- the constraints that stand below one of those so far
use Rattle.std.proofs.Common.{◌≡◌, ℕ, cond}
use Rattle.std.specs.Int.{bit_at}
use Rattle.hasse_listing.proofs.Listed.{further_below}
use Rattle.hasse_listing.proofs.listing.covered_by.Given as goal

abbrev pub invariant-loop-k : goal.invariant-loop-k
invariant-loop-k l = (d : ℕ) → bit_at l.further d ≡ cond (further_below l.below l.c d l.k) 1 0
