use Rattle.std.proofs.Common.{arith, length}
use Rattle.typology_workers.proofs.Finds.{looked-nothing}
use Rattle.typology_workers.proofs.learning.look_all.Goals as goal

pub returns-clause-stays : goal.returns-clause-stays
returns-clause-stays c = looked-nothing (length c.args.store.now) c.args.front.now c.loop.front c.look.new.f c.loop.invariant.0 (let m = c.loop.invariant.1 in omega arith) c.in_default.ensures.value
