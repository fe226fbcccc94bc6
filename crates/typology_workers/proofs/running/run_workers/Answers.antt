-- New packets stay ready when prefixes are dealt to them.
use Rattle.std.proofs.lemmas.Result.{IfOk-weaker}
use Rattle.typology_workers.specs.Packets.{ArePartsOf, HasRunAll}
use Rattle.typology_workers.proofs.Together.{new-ready}
use Rattle.typology_workers.proofs.running.run_workers.Goals as goal

pub run_halves-requires-clause-ready : goal.run_halves-requires-clause-ready
run_halves-requires-clause-ready g c κs within = new-ready c.args.workers c.args.store.now c.in_ok-packets.packets.items c.deal.new.packets.items c.in_ok-packets.ensures.seats c.in_ok-back.ensures.same c.in_ok-packets.ensures.fronts

pub returns : goal.returns
returns g c =
    IfOk-weaker c.part.result (ArePartsOf c.in_ok-back.back.items c.in_ok-ended.ended.items) (HasRunAll c.args.p.now c.args.workers c.args.store.now c.args.waiting.items)
    (λ parts left. record {
      fresh = c.in_ok-packets.packets.items;
      dealt = c.deal.new.packets.items;
      handed = c.in_ok-back.back.items;
      ended = c.in_ok-ended.ended.items;
      new = c.in_ok-packets.ensures.seats;
      make = c.in_ok-packets.ensures.make;
      begins = c.in_ok-packets.ensures.fronts;
      dealing = c.in_ok-back.ensures;
      ran = c.in_ok-ended.ensures;
      left = left;
    })
    c.part.ensures
