-- Each term that is found joins those kept; where no ranking keeps these, they are the certificate.
use Rattle.std.proofs.Common.{◌∙◌, ◌-◌, refl, ap, set}
use Rattle.refutation.specs.Terms.{terms_in}
use Rattle.refutation.proofs.Fronts.{certified, end_slice, needed, AreFront-end, AreFront-hopeless, AreFront-more, AreFront-start}
use Rattle.refutation.proofs.certificate.core_of_conditions.Goals as goal

pub loop-last-init : goal.loop-last-init
loop-last-init c =
    AreFront-start c.args.p.now c.args.terms.now c.new-kept.result.items c.args.conditions.items c.len-front.result c.len-others.result c.new-kept.ensures.items (c.len-front.ensures ∙ c.args.conditions.ok.0) (c.len-others.ensures ∙ c.args.conditions.ok.0)
    c.requires.conditions c.requires.widths (rw c.requires.conditions at c.requires.hopeless)

pub last_needed-requires-clause-hopeless : goal.last_needed-requires-clause-hopeless
last_needed-requires-clause-hopeless c =
    rw (end_slice c.loop-last.conditions.items c.deref.result.now c.loop-last.others c.deref.ensures.value, c.deref-in-loop-last.ensures.value)
    (AreFront-hopeless c.args.p.now c.args.terms.now c.loop-last.kept.items c.loop-last.conditions.items c.loop-last.front c.loop-last.others c.constraints-n.result c.constraints-n.ensures.value c.loop-last.invariant)

pub loop-last-preserved : goal.loop-last-preserved
loop-last-preserved c =
    let conditions = c.loop-last.conditions.items in
    let others = c.loop-last.others in
    let rest = end_slice conditions c.deref.result.now others c.deref.ensures.value in
    AreFront-more c.args.p.now c.args.terms.now c.loop-last.kept.items c.insert.new.self.items conditions _ c.loop-last.front others c.in-Some.last (others - 1) c.constraints-n.result _ _ c.constraints-n.ensures.value c.loop-last.invariant
    (rw c.deref-in-loop-last.ensures.value at c.in-Some.ensures.short) refl (rw (rest, c.deref-in-loop-last.ensures.value) at c.in-Some.ensures.some) (rw (rest, c.deref-in-loop-last.ensures.value) at c.in-Some.ensures.none)
    (ap (λ x. set conditions (others - 1) x) c.index.ensures) c.in_ok-insert.ensures.items

pub returns-clause-certificate : goal.returns-clause-certificate
returns-clause-certificate c =
    ap terms_in c.from_vec.ensures
    ∙ AreFront-end c.args.p.now c.args.terms.now c.loop-last.kept.items c.loop-last.conditions.items c.loop-last.front c.loop-last.others c.constraints-n.result c.constraints-n.ensures.value c.loop-last.invariant
    (rw (end_slice c.loop-last.conditions.items c.deref.result.now c.loop-last.others c.deref.ensures.value) at c.in_default.ensures.alone)

pub returns-clause-contradiction : goal.returns-clause-contradiction
returns-clause-contradiction c = certified c.args.p.now c.args.terms.now (terms_in c.from_vec.result) c.requires.genuine c.requires.one (rw c.requires.conditions at c.requires.hopeless) (returns-clause-certificate c)

pub returns-clause-needed : goal.returns-clause-needed
returns-clause-needed c = needed c.args.p.now c.args.terms.now (terms_in c.from_vec.result) (returns-clause-certificate c)
