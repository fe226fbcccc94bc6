use Rattle.std.proofs.Common.{◌≡◌, ◌∙◌, ◌==◌, ◌&&◌, arith, sym, ap, not, true, false, Bool}
use Rattle.std.specs.Prelude.{bit_and}
use Rattle.std.proofs.lemmas.Bool.{ne_eqb, eq-eqb}
use Rattle.biased_demotion.proofs.Opened.{open-lossless, open-mask}
use Rattle.biased_demotion.proofs.next.opens.Goals as goal

pub returns-then-l_mask-ne0 : goal.returns-then-l_mask-ne0
returns-then-l_mask-ne0 c =
    let some : (c.l_mask.result == 0) ≡ false = ne_eqb c.l_mask.result 0 c.if-l_mask-ne0.true in
    ap (λ (b : Bool). not b && (bit_and c.w_mask.result c.args.placed == 0)) (sym some) ∙ open-mask c.args.condition.now c.w_mask.result c.l_mask.result c.args.placed c.requires (omega arith) (omega arith) c.w_mask.ensures.mask c.l_mask.ensures.mask

pub returns-else-l_mask-ne0 : goal.returns-else-l_mask-ne0
returns-else-l_mask-ne0 c =
    let none : (c.l_mask.result == 0) ≡ true = eq-eqb c.l_mask.result 0 c.if-l_mask-ne0.false in
    ap not none ∙ open-lossless c.args.condition.now c.l_mask.result c.args.placed (omega arith) c.l_mask.ensures.mask c.if-l_mask-ne0.false
