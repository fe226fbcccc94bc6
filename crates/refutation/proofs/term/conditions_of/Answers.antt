use Rattle.std.proofs.Common.{◌≡◌, ◌∷◌, ◌++◌, [], length, arith, sym}
use Rattle.std.proofs.lemmas.Grind.{common_steps}
use Rattle.std.proofs.lemmas.List.Elements.{All-push}
use Rattle.refutation.proofs.SoFar.{conditions-more}
use Rattle.refutation.proofs.term.conditions_of.Goals as goal

pub loop-term-preserved : goal.loop-term-preserved
loop-term-preserved c =
    let pushed : c.push.new.self.items ≡ c.loop-term.conditions.items ++ c.condition_of.result ∷ [] = grind (arith, common_steps) in
    record {
      so_far = rw (pushed, c.loop-term.invariant.so_far, c.condition_of.ensures.marks) (sym (conditions-more c.args.p.now c.args.terms.now c.loop-term.term-index _ c.loop-term-test.true));
      widths = rw pushed (All-push (λ marks. length marks ≡ c.args.p.now.constraints) c.loop-term.conditions.items c.condition_of.result c.loop-term.invariant.widths c.condition_of.ensures.width);
    }
