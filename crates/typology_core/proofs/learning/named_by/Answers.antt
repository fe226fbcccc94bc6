use Rattle.std.proofs.Common.{◌∙◌, ap, arith, length}
use Rattle.refutation.specs.declared.typology.Cut.{Cut}
use Rattle.typology_core.specs.Judged.{named_of}
use Rattle.typology_core.specs.Learned.{with_one}
use Rattle.typology_core.specs.declared.learning.Named.{Named}
use Rattle.typology_core.proofs.Counted.{named-few, named-more, named-none}
use Rattle.typology_core.proofs.learning.named_by.Goals as goal

pub loop-cut-init : goal.loop-cut-init
loop-cut-init c = ap named_of (c.in_ok-named.ensures.items_if_clones_equal (λ y e. e)) ∙ named-none c.args.certificates

pub with-requires : goal.with-requires
with-requires c =
    let place = ap (λ (cut : Cut). cut.certificate) c.cut-item.is in
    let few =
    named-few c.args.cuts.now c.loop-cut.named.items c.args.certificates c.loop-cut.cut-index c.cut-item.result.certificate c.index.result.now (omega (arith, place, c.requires c.loop-cut.cut-index c.cut-item.result c.loop-cut-test.true)) c.loop-cut-test.true (omega (arith, c.if-prove.false)) c.loop-cut.invariant in
    omega (arith, few, ap (λ (n : Named). n.cuts) c.index.ensures)

pub loop-cut-preserved : goal.loop-cut-preserved
loop-cut-preserved c =
    let place = ap (λ (cut : Cut). cut.certificate) c.cut-item.is in
    named-more c.args.cuts.now c.loop-cut.named.items c.args.certificates c.loop-cut.cut-index c.cut-item.result c.cut-item.result c.with.result c.index.result.now c.loop-cut-test.true c.cut-item.is (omega (arith, place, c.requires c.loop-cut.cut-index c.cut-item.result c.loop-cut-test.true))
    (c.with.ensures ∙ ap (λ (n : Named). with_one (n.length, n.cuts) (length c.cut-item.result.prefix)) c.index.ensures) c.loop-cut.invariant
