use Rattle.std.specs.Prelude.{Some}
use Rattle.std.proofs.lemmas.List.Elements.{All-pop}
use Rattle.typology_workers.specs.Packets.{IsReady}
use Rattle.typology_workers.proofs.halves.run_one.Goals as goal

pub run-requires-after_bounds : goal.run-requires-after_bounds
run-requires-after_bounds g c κs within = (All-pop (IsReady c.args.store.now) c.args.packets.items c.pop.new.self.items (Some c.in-Some.packet) c.in-Some.ensures.items c.requires.0).1
