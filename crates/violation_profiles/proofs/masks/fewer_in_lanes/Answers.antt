use Rattle.violation_profiles.proofs.Masked.{lanes-shifted}
use Rattle.violation_profiles.proofs.masks.fewer_in_lanes.Goals as goal

pub returns : goal.returns
returns c = lanes-shifted c.args.start c.args.fewer.now c.args.more.now c.requires.fewer c.requires.more c.requires.small
