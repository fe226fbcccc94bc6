use Rattle.std.proofs.Common.{◌≡◌, ℕ, ◌<◌, length, slice_index}
use Rattle.demotion.specs.Placed.{has_bit}
use Rattle.hasse_listing.specs.Masks.{AreBelow, is_covered}
use Rattle.hasse_listing.proofs.Listed.{covers_above}
use Rattle.hasse_listing.proofs.listing.covers.Given as goal

-- what stands necessarily below the constraints so far
abbrev pub invariant-loop-c : goal.invariant-loop-c
invariant-loop-c l = record {
  wide : length l.below ≡ 64;
  each : (x : ℕ) → x < l.c → AreBelow l.n l.set x (slice_index l.below x);
}

-- what they cover
abbrev pub invariant-loop-c-2 : goal.invariant-loop-c-2
invariant-loop-c-2 l = record {
  wide : length l.covered ≡ 64;
  each : (x : ℕ) → x < l.c → (d : ℕ) → d < l.n → has_bit (slice_index l.covered x) d ≡ is_covered l.n l.below x d;
}

-- the covers of the constraints so far
abbrev pub invariant-loop-c-3 : goal.invariant-loop-c-3
invariant-loop-c-3 l = l.list ≡ covers_above l.n l.set l.c
