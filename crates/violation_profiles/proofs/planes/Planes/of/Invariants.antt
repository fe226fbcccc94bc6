-- the planes of the violations so far
use Rattle.std.proofs.Common.{◌≡◌, ◌*◌, take}
use Rattle.violation_profiles.specs.Planes.{planes_of}
use Rattle.violation_profiles.proofs.planes.Planes.of.Given as goal

abbrev pub invariant-loop-k : goal.invariant-loop-k
invariant-loop-k l = l.planes ≡ planes_of (take (16 * l.k) l.profile)
