use Rattle.std.proofs.Common.{◌≡◌, ◌∙◌, length}
use Rattle.std.specs.Prelude.{min}
use Rattle.refutation_store.proofs.Learnt.{agree_more, agree_all}
use Rattle.refutation_store.proofs.laws.agree.Goals as goal

pub loop-place-preserved : goal.loop-place-preserved
loop-place-preserved c = agree_more c.args.f.now.values c.args.g.now.values c.loop-place.place c.loop-place.invariant c.agree_at.ensures

pub returns : goal.returns
returns c =
    let e : c.min-place-end.result ≡ min (length c.args.f.now.values) (length c.args.g.now.values) = c.min-place-end.ensures ∙ (λ i. min (c.len.ensures.len i) (c.len-2.ensures.len i)) in
    agree_all c.args.f.now.values c.args.g.now.values c.loop-place.place c.min-place-end.result c.loop-place.invariant e c.loop-place-test.false
