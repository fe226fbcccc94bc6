use Rattle.violation_profiles.proofs.BitPlanes.{AreFewer-more}
use Rattle.violation_profiles.proofs.planes.refined.Goals as goal

pub returns : goal.returns
returns c k xs ys is_a is_b h = AreFewer-more k xs ys c.args.fewer c.args.a c.args.b is_a is_b h
