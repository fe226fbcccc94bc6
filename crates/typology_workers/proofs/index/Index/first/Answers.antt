use Rattle.std.proofs.Common.{◌≡◌, ◌+◌, ◌-◌, ◌<◌, ◌≤◌, ◌∙◌, ℕ, get_or, arith, length, ap, subst}
use Rattle.std.proofs.lemmas.List.{length-map}
use Rattle.ot_base.specs.declared.tableau.ClassId.{ClassId}
use Rattle.refutation.specs.Prefixes.{class_numbers}
use Rattle.typology_workers.specs.Indexed.{slot_of}
use Rattle.typology_workers.proofs.Indexing.{IsEarliestTo, best-start, best-more, best-all, class-at, nearest-cuts}
use Rattle.typology_workers.proofs.index.Index.first.Goals as goal

pub loop-i-init : goal.loop-i-init
loop-i-init c =
    let n = length-map c.args.prefix.now (λ (class : ClassId). class.0) in
    best-start c.args.p.now c.args.front.now.values (class_numbers c.args.prefix.now) (length c.args.prefix.now) c.len-best.result (omega arith) c.len-best.ensures.len

pub loop-i-preserved : goal.loop-i-preserved
loop-i-preserved c =
    let slots = c.args.self.now.slots.items in
    let i : ℕ = c.loop-i.i - 1 in
    let class : ClassId = get_or c.args.prefix.now i (record { 0 = 0 }) in
    let n = c.nearest_in-best.ensures in
    let some : 0 < c.loop-i.i = c.loop-i-test.true in
    let most : c.loop-i.i ≤ length c.args.prefix.now = c.loop-i.auto.i in
    let below : i < length c.args.prefix.now = omega arith in
    let next : c.loop-i.i ≡ i + 1 = omega arith in
    let many : c.len.result ≡ length slots = (let b = c.len.ensures in omega arith) in
    let old : IsEarliestTo c.args.p.now c.args.front.now.values (class_numbers c.args.prefix.now) (i + 1) c.loop-i.best =
    subst (λ (k : ℕ). IsEarliestTo c.args.p.now c.args.front.now.values (class_numbers c.args.prefix.now) k c.loop-i.best) next c.loop-i.invariant in
    best-more c.args.p.now c.args.front.now.values (class_numbers c.args.prefix.now) slots i class.0 c.slot_of-slot.result c.loop-i.best c.nearest_in-best.result old c.requires.index
    (class-at c.args.prefix.now i (record { 0 = 0 }) below) (c.slot_of-slot.ensures.slot ∙ ap (λ (k : ℕ). slot_of k i class.0) many) (record { low = n.low; hit = n.hit; all = n.all })

pub returns-clause-hit : goal.returns-clause-hit
returns-clause-hit c =
    let n = c.nearest_in.ensures in
    nearest-cuts c.args.p.now c.args.front.now.values (class_numbers c.args.prefix.now) c.args.self.now.slots.items (c.len-2.result - 1) c.loop-i.best c.nearest_in.result c.requires.index c.loop-i.invariant.hit (record { low = n.low; hit = n.hit; all = n.all })

pub returns-clause-first : goal.returns-clause-first
returns-clause-first c =
    let n = c.nearest_in.ensures in
    let slots = c.args.self.now.slots.items in
    let last : c.len-2.result - 1 ≡ length slots - 1 = (let b = c.len-2.ensures in omega arith) in
    best-all c.args.p.now c.args.front.now.values (class_numbers c.args.prefix.now) slots c.loop-i.i (c.len-2.result - 1) c.loop-i.best c.nearest_in.result c.loop-i.invariant (let t = c.loop-i-test.false in omega arith) c.requires.index last
    (record { low = n.low; hit = n.hit; all = n.all })
