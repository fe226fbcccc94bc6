use Rattle.std.proofs.Common.{ap}
use Rattle.violation_profiles.specs.declared.planes.Planes.{Planes}
use Rattle.violation_profiles.proofs.BitPlanes.{AreFewer-none}
use Rattle.violation_profiles.proofs.planes.fewer.Goals as goal

pub returns : goal.returns
returns c xs ys is_a is_b =
    c.refined.ensures 2 xs ys (ap (λ (p : Planes). p.fours) is_a) (ap (λ (p : Planes). p.fours) is_b)
    (c.refined-by_two.ensures 1 xs ys (ap (λ (p : Planes). p.twos) is_a) (ap (λ (p : Planes). p.twos) is_b)
    (c.refined-by_one.ensures 0 xs ys (ap (λ (p : Planes). p.ones) is_a) (ap (λ (p : Planes). p.ones) is_b) (AreFewer-none xs ys)))
