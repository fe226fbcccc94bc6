-- The fusion so far, fused with one condition more.
use Rattle.std.proofs.Common.{◌∷◌, [], sym, ◌∙◌, ap}
use Rattle.ot_theory.specs.Conditions.{fusion}
use Rattle.ot_theory.proofs.Fusing.{fusion-one}
use Rattle.refutation.specs.Terms.{term_of}
use Rattle.refutation.proofs.SoFar.{fused-more}
use Rattle.refutation.proofs.contradiction.fusion_of.Goals as goal

pub loop-term-init : goal.loop-term-init
loop-term-init c = record {
  width = c.condition_of-fused.ensures.width;
  so_far = sym (fusion-one c.args.p.now.constraints c.condition_of-fused.result c.condition_of-fused.ensures.width) ∙ ap (λ m. fusion c.args.p.now.constraints (m ∷ [])) c.condition_of-fused.ensures.marks;
}

pub loop-term-preserved : goal.loop-term-preserved
loop-term-preserved c = record {
  width = c.fuse-fused.ensures.width ∙ c.loop-term.invariant.width;
  so_far = fused-more c.args.p.now (term_of c.args.first.now) c.args.rest.now c.loop-term.term-index _ c.loop-term.fused c.condition_of.result c.fuse-fused.result c.loop-term-test.true c.loop-term.invariant.so_far c.condition_of.ensures.marks
      (c.fuse-fused.ensures.fusion ∙ ap (λ n. fusion n (c.loop-term.fused ∷ c.condition_of.result ∷ [])) c.loop-term.invariant.width);
}
