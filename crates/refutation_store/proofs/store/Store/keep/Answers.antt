use Rattle.std.proofs.Common.{length}
use Rattle.refutation_store.proofs.Learnt.{learns_none, learns_more, not_met, never_past, shows_last}
use Rattle.refutation_store.proofs.store.Store.keep.Goals as goal

pub loop-self-init : goal.loop-self-init
loop-self-init c = (learns_none _, λ k from e. never_past c.args.f.now.values k c.args.c.now from e)

pub returns-then-branch-clause-kept : goal.returns-then-branch-clause-kept
returns-then-branch-clause-kept c =
    let o = rw c.in_ok-offer.was at c.offer.ensures.ok in
    let h = c.loop-self.invariant in
    shows_last (length c.args.self.now) c.args.f.now c.loop-self.f c.offer.new.f o.0 c.args.c.now c.len-then-branch.result h.0 h.1 o.1 (o.2.0 c.if-branch.true) c.len-then-branch.ensures.len

pub loop-self-preserved : goal.loop-self-preserved
loop-self-preserved c =
    let o = rw c.in_ok-offer.was at c.offer.ensures.ok in
    let h = c.loop-self.invariant in (
      learns_more c.args.f.now c.loop-self.f c.offer.new.f o.0 h.0 o.1,
      not_met _ c.loop-self.f c.offer.new.f o.0 c.args.c.now h.1 (λ e. let t = rw c.if-branch.false at (o.2.1 e) in (cc)) o.1,
    )
