use Rattle.typology_core.proofs.Counted.{count-length}
use Rattle.typology_core.proofs.learning.judged.Goals as goal

pub loop-length-preserved : goal.loop-length-preserved
loop-length-preserved c = count-length c.args.held c.args.places c.loop-length.length c.args.named.now c.loop-length.count c.with_length-count.result c.with_length-count.ensures c.loop-length.invariant
