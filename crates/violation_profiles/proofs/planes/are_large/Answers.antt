use Rattle.violation_profiles.proofs.BitPlanes.{lanes-large}
use Rattle.violation_profiles.proofs.planes.are_large.Goals as goal

pub returns : goal.returns
returns c = lanes-large c.args.violations c.requires
