use Rattle.std.proofs.Common.{◌≢◌, arith, sym, ◌∙◌, inl, inr}
use Rattle.std.proofs.lemmas.Bool.{cases_lt, eq-eqb, lt-ltb, le-ltb}
use Rattle.erc_vectors.proofs.LeastLevel.{satisfied-no_loss, satisfied-less, unsatisfied-more}
use Rattle.erc_vectors.proofs.strata.Strata.satisfies.Goals as goal

pub returns-then-losses-eq0 : goal.returns-then-losses-eq0
returns-then-losses-eq0 c = eq-eqb _ _ c.if-losses-eq0.true ∙ sym (satisfied-no_loss c.args.self.now c.args.c.now _ c.l_mask-losses.ensures.mask c.if-losses-eq0.true)

pub returns-else-losses-eq0 : goal.returns-else-losses-eq0
returns-else-losses-eq0 c =
    let win = c.least_level in
    let loss = c.least_level-else-losses-eq0 in
    elim (cases_lt win.result loss.result) [
      | inl less ↦
          let some : c.w_mask.result ≢ 0 = λ none. absurd (omega (arith, less, win.ensures.none none)) in
          lt-ltb _ _ less ∙ sym (satisfied-less c.args.self.now c.args.c.now _ _ _ _ c.w_mask.ensures.mask c.l_mask-losses.ensures.mask (win.ensures.taken some) loss.ensures.least less)
      | inr more ↦
          le-ltb _ _ more ∙ sym (unsatisfied-more c.args.self.now c.args.c.now _ _ _ _ c.w_mask.ensures.mask c.l_mask-losses.ensures.mask (loss.ensures.taken c.if-losses-eq0.false) win.ensures.least more)
    ]
