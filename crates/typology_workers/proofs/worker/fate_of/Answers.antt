use Rattle.std.proofs.Common.{sym, subst, length}
use Rattle.search_deeds.specs.declared.deed.Fate.{Fate}
use Rattle.typology_workers.specs.Turned.{IsFated}
use Rattle.typology_workers.proofs.Fates.{fated}
use Rattle.typology_workers.proofs.Indexing.{index-grows}
use Rattle.typology_workers.proofs.Sifting.{marked-grows}
use Rattle.typology_workers.proofs.worker.fate_of.Goals as goal

pub returns-clause-fated : goal.returns-clause-fated
returns-clause-fated c =
    subst (λ (fate : Fate). IsFated c.args.p.now (length c.args.store.now) c.args.prefix.now c.args.front.now c.find.new.front fate) (sym c.fate_for.ensures)
    (fated c.args.p.now (length c.args.store.now) c.args.prefix.now c.args.front.now c.look_all.new.front c.find.new.front c.in_ok-finding.finding c.requires.prefix c.look_all.ensures.stays c.find.ensures.stays c.look_all.ensures.looked
    c.in_ok-finding.ensures.found c.in_ok-finding.ensures.kept)

pub find-requires-clause-index : goal.find-requires-clause-index
find-requires-clause-index c =
    index-grows c.args.p.now c.args.index.now.slots.items c.args.index.now.indexed c.args.front.now.values c.look_all.new.front.values c.requires.index c.look_all.ensures.stays.values

pub returns-clause-index : goal.returns-clause-index
returns-clause-index c =
    index-grows c.args.p.now c.find.new.index.slots.items c.find.new.index.indexed c.look_all.new.front.values c.find.new.front.values c.in_ok-finding.ensures.index c.find.ensures.stays.values

pub find-requires-clause-marked : goal.find-requires-clause-marked
find-requires-clause-marked c =
    marked-grows c.args.p.now c.args.index.now.slots.items c.args.index.now.marks.items c.args.index.now.indexed c.args.front.now.values c.look_all.new.front.values c.requires.index c.requires.marked c.look_all.ensures.stays.values

pub returns-clause-marked : goal.returns-clause-marked
returns-clause-marked c =
    marked-grows c.args.p.now c.find.new.index.slots.items c.find.new.index.marks.items c.find.new.index.indexed c.look_all.new.front.values c.find.new.front.values c.in_ok-finding.ensures.index c.in_ok-finding.ensures.marked c.find.ensures.stays.values
