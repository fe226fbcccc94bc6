use Rattle.std.proofs.Common.{◌≡◌, true, false, []}
use Rattle.ot_theory.specs.Refutations.{is_contradiction}
use Rattle.refutation.specs.Terms.{terms_in}
use Rattle.refutation.specs.Typologies.{certificates_of}
use Rattle.search_deeds.specs.Sieved.{IsMarkOf}
use Rattle.std.specs.Prelude.{slice_index_or}
use Rattle.typology_workers.specs.Indexed.{last_of}
use Rattle.typology_workers.proofs.Indexing.{index-more, index-skips}
use Rattle.typology_workers.proofs.Sifting.{certificate-at, marked-more}
use Rattle.typology_workers.proofs.index.Index.learn.Goals as goal
use Rattle.typology_workers.proofs.index.Index.learn.Goals.{then-is_genuine+in_ok-add, else-is_genuine}

pub loop-place-preserved : goal.loop-place-preserved
loop-place-preserved c = elim c.if-is_genuine.branch [
  | then-is_genuine+in_ok-add w ↦
      let value = c.seen-value.result.now in
      let genuine : is_contradiction c.args.p.now (terms_in value.terms) ≡ true = (let t = w.if-is_genuine.true in let e = c.is_genuine.ensures in cc) in
      let mark = w.in_ok-add.ensures.marks in
      let its : IsMarkOf (slice_index_or (certificates_of c.args.front.now.values) c.loop-place.place []) mark.0 = rw (certificate-at c.args.front.now.values c.loop-place.place value c.seen-value.ensures) mark.1 in
      rw (w.self-is, w.in_ok-add.ensures.slots, mark.2) (record {
        index = index-more c.args.p.now c.loop-place.self.slots.items c.loop-place.place c.args.front.now.values value c.loop-place.invariant.index c.seen-value.ensures genuine;
        marked = marked-more (certificates_of c.args.front.now.values) (last_of value.terms) c.loop-place.self.slots.items c.loop-place.self.marks.items c.loop-place.place mark.0 c.loop-place.invariant.index.some its c.loop-place.invariant.marked;
      })
  | else-is_genuine w ↦
      let other : is_contradiction c.args.p.now (terms_in c.seen-value.result.now.terms) ≡ false = (let t = w.if-is_genuine.false in let e = c.is_genuine.ensures in cc) in
      rw w.self-is (record {
        index = index-skips c.args.p.now c.loop-place.self.slots.items c.loop-place.place c.args.front.now.values c.seen-value.result.now c.loop-place.invariant.index c.seen-value.ensures other;
        marked = c.loop-place.invariant.marked;
      })
]
