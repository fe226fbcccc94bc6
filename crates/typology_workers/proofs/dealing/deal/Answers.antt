-- The first of the prefixes that are not dealt yet is put into the deque of the seat k.
use Rattle.std.proofs.Common.{arith, length-set, refl, subst}
use Rattle.std.proofs.lemmas.List.{nil_from_length}
use Rattle.typology_workers.specs.Packets.{AreDealt}
use Rattle.typology_workers.proofs.Deals.{dealt-first, dealt-more}
use Rattle.typology_workers.proofs.dealing.deal.Goals as goal

pub loop-prefix-init : goal.loop-prefix-init
loop-prefix-init c = record {
  within = omega (arith, c.requires, c.args.packets.now.ok.0);
  many = refl;
  dealt = rw c.new-back.ensures.items (dealt-first c.args.packets.now.items c.args.waiting.items);
}

pub loop-prefix-preserved : goal.loop-prefix-preserved
loop-prefix-preserved c =
    let h = c.loop-prefix.invariant in
    let long = length-set c.loop-prefix.packets.items c.loop-prefix.k c.put.new.packet in
    record {
      within = omega (arith, long, h.within, c.len.ensures, c.loop-prefix.packets.ok.0);
      many = omega (arith, long, h.many);
      dealt = dealt-more c.args.packets.now.items c.loop-prefix.packets.items c.args.waiting.items c.loop-prefix.back.items c.put.new.back.items c.loop-prefix.waiting.items c.pop_front.new.self.items c.in-Some.prefix c.loop-prefix.k
          c.index_mut.result.now c.put.new.packet h.within c.index_mut.ensures.value c.in-Some.ensures.items h.dealt c.in_ok-put.ensures;
    }

pub returns : goal.returns
returns c =
    let none = nil_from_length c.loop-prefix.waiting.items (omega (arith, c.in_default.ensures.cases.0, c.loop-prefix.waiting.ok)) in
    subst (AreDealt c.args.packets.now.items c.args.waiting.items c.loop-prefix.packets.items c.loop-prefix.back.items) none c.loop-prefix.invariant.dealt
