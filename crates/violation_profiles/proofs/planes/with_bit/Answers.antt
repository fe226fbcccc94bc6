use Rattle.violation_profiles.proofs.BitPlanes.{lanes-with_bit}
use Rattle.violation_profiles.proofs.planes.with_bit.Goals as goal

pub returns : goal.returns
returns c = lanes-with_bit c.args.violations c.args.k c.requires.lanes c.requires.bit
