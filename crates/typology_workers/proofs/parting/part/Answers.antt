use Rattle.std.proofs.Common.{refl}
use Rattle.typology_workers.proofs.Apart.{parts-first, parts-more}
use Rattle.typology_workers.proofs.parting.part.Goals as goal

pub loop-one-init : goal.loop-one-init
loop-one-init c =
    parts-first c.args.waiting.items (record { seats = c.new.result; fronts = c.new-2.result; deeds = c.new-3.result; waiting = c.args.waiting }) c.new.ensures c.new-2.ensures c.new-3.ensures refl

pub loop-one-preserved : goal.loop-one-preserved
loop-one-preserved c = parts-more c.args.waiting.items c.loop-one.yielded c.in-Some.one c.loop-one.parts c.add.new.parts c.loop-one.invariant c.in_ok-add.ensures
