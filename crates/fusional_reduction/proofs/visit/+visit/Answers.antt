use Rattle.std.proofs.Common.{arith, ◌∙◌, sym, ◌≡◌, length}
use Rattle.std.proofs.lemmas.Result.{on_ok_weaker}
use Rattle.std.proofs.lemmas.Bool.{eqb-true, eqb-false}
use Rattle.ot_theory.specs.Conditions.{width_of}
use Rattle.fusional_reduction.proofs.Walk.{part-nonempty, ended, are-parted, asks-below, asks-rest, walked, walked-all}
use Rattle.fusional_reduction.proofs.visit.+visit.Goals as goal

pub fuse-fused-requires-clause-some : goal.fuse-fused-requires-clause-some
fuse-fused-requires-clause-some t c = part-nonempty c.args.group.now c.args.node.now c.requires.part c.requires.some

pub add_member-requires-clause-some : goal.add_member-requires-clause-some
add_member-requires-clause-some t c = part-nonempty c.args.group.now c.args.node.now c.requires.part c.requires.some

pub returns-then-away-eq0 : goal.returns-then-away-eq0
returns-then-away-eq0 t c = on_ok_weaker c.add_member.result
    (λ grown. ended (width_of c.args.node.now) c.args.node.now c.args.group.now c.fuse-fused.result c.w_mask.result c.args.members.now.items c.add_member.new.members.items c.requires.part c.requires.some c.fuse-fused.ensures.fusion c.w_mask.ensures.mask (c.away_of-away.ensures.none c.if-away-eq0.true) grown)
    c.add_member.ensures

pub visit-requires : goal.visit-requires
visit-requires t c =
    let parted = are-parted (width_of c.args.node.now) c.args.node.now c.args.group.now c.fuse-fused.result c.w_mask.result c.away_of-away.result c.requires.given c.requires.part c.fuse-fused.ensures.fusion c.w_mask.ensures.mask c.away_of-away.ensures.within (omega arith) (omega (arith, c.if-away-eq0.false)) (c.away_of-away.ensures.some (omega (arith, c.if-away-eq0.false))) in
    let asks = asks-below (width_of c.args.node.now) c.args.node.now c.args.group.now c.fuse-fused.result c.w_mask.result c.away_of-away.result c.as_slice.result.now c.as_slice-2.result.now parted (c.as_slice.ensures.value ∙ c.in_ok-below.ensures) (c.as_slice-2.ensures.value ∙ c.in_ok-even.ensures) in
    (omega (arith, c.decreases, asks.fewer), (asks.given, (asks.part, asks.some)))

pub returns-then-is_empty : goal.returns-then-is_empty
returns-then-is_empty t c =
    let parted = are-parted (width_of c.args.node.now) c.args.node.now c.args.group.now c.fuse-fused.result c.w_mask.result c.away_of-away.result c.requires.given c.requires.part c.fuse-fused.ensures.fusion c.w_mask.ensures.mask c.away_of-away.ensures.within (omega arith) (omega (arith, c.if-away-eq0.false)) (c.away_of-away.ensures.some (omega (arith, c.if-away-eq0.false))) in
    let none : length c.in_ok-rest.rest.items ≡ 0 = omega (arith, eqb-true _ _ (sym c.if-is_empty.ensures)) in
    walked-all (width_of c.args.node.now) c.args.node.now c.args.group.now c.fuse-fused.result c.w_mask.result c.away_of-away.result c.as_slice.result.now c.as_slice-2.result.now c.in_ok-rest.rest.items c.args.members.now.items c.visit.new.members.items parted (c.as_slice.ensures.value ∙ c.in_ok-below.ensures) (c.as_slice-2.ensures.value ∙ c.in_ok-even.ensures) c.in_ok-rest.ensures none c.in_ok-visit.ensures

pub visit-requires-2 : goal.visit-requires-2
visit-requires-2 t c =
    let parted = are-parted (width_of c.args.node.now) c.args.node.now c.args.group.now c.fuse-fused.result c.w_mask.result c.away_of-away.result c.requires.given c.requires.part c.fuse-fused.ensures.fusion c.w_mask.ensures.mask c.away_of-away.ensures.within (omega arith) (omega (arith, c.if-away-eq0.false)) (c.away_of-away.ensures.some (omega (arith, c.if-away-eq0.false))) in
    let more : length c.as_slice-3.result.now ≡ 0 → ⊥ = λ e. eqb-false _ _ (sym c.if-is_empty.ensures) (omega (arith, e, c.as_slice-3.ensures.len)) in
    let asks = asks-rest (width_of c.args.node.now) c.args.node.now c.args.group.now c.fuse-fused.result c.w_mask.result c.away_of-away.result c.as_slice-3.result.now parted c.requires.given (c.as_slice-3.ensures.value ∙ c.in_ok-rest.ensures) more in
    (omega (arith, c.decreases, asks.fewer), (asks.given, (asks.part, asks.some)))

pub returns : goal.returns
returns t c =
    let parted = are-parted (width_of c.args.node.now) c.args.node.now c.args.group.now c.fuse-fused.result c.w_mask.result c.away_of-away.result c.requires.given c.requires.part c.fuse-fused.ensures.fusion c.w_mask.ensures.mask c.away_of-away.ensures.within (omega arith) (omega (arith, c.if-away-eq0.false)) (c.away_of-away.ensures.some (omega (arith, c.if-away-eq0.false))) in
    on_ok_weaker c.visit-2.result
    (λ v. walked (width_of c.args.node.now) c.args.node.now c.args.group.now c.fuse-fused.result c.w_mask.result c.away_of-away.result c.as_slice.result.now c.as_slice-2.result.now c.as_slice-3.result.now c.args.members.now.items c.visit.new.members.items c.visit-2.new.members.items parted (c.as_slice.ensures.value ∙ c.in_ok-below.ensures) (c.as_slice-2.ensures.value ∙ c.in_ok-even.ensures) (c.as_slice-3.ensures.value ∙ c.in_ok-rest.ensures) c.in_ok-visit.ensures v)
    c.visit-2.ensures
