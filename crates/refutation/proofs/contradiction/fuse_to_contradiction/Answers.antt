use Rattle.refutation.proofs.SoFar.{none-fuse-to-loss}
use Rattle.refutation.proofs.contradiction.fuse_to_contradiction.Goals as goal

pub returns-in-None : goal.returns-in-None
returns-in-None c = none-fuse-to-loss c.args.p.now c.args.terms.now c.in-None.ensures.cases
