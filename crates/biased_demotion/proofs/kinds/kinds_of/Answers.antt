use Rattle.std.proofs.Common.{◌≡◌, true, false, not, arith, ap, ◌∙◌, get_or}
use Rattle.std.proofs.lemmas.List.{get_or_past, get_or_default}
use Rattle.biased_demotion.specs.Biased.{is_faithfulness, is_markedness}
use Rattle.biased_demotion.proofs.Shown.{IsShownBelow-none, IsShownBelow-in, IsShownBelow-out, IsShownBelow-whole}
use Rattle.biased_demotion.proofs.kinds.kinds_of.Goals as goal
use Rattle.biased_demotion.proofs.kinds.kinds_of.Goals.{then-faith-c, else-faith-c}

pub loop-c-init : goal.loop-c-init
loop-c-init c = record { low = IsShownBelow-none (is_faithfulness c.args.faith.now); high = IsShownBelow-none (is_markedness c.args.faith.now) }

pub loop-c-preserved : goal.loop-c-preserved
loop-c-preserved c =
    let faith = c.args.faith.now in
    let k = c.loop-c.c in
    let kind : is_markedness faith k ≡ not (get_or faith k false) = ap not (get_or_default faith k true false c.loop-c-test.true) in
    elim c.if-faith-c.branch [
      | then-faith-c w ↦ record {
        low = rw (w.faithfulness-is, w.bit_of-faithfulness.ensures) (IsShownBelow-in c.loop-c.faithfulness (is_faithfulness faith) k w.if-faith-c.true c.loop-c.invariant.low);
        high = rw w.markedness-is (IsShownBelow-out c.loop-c.markedness (is_markedness faith) k (kind ∙ ap not w.if-faith-c.true) c.loop-c.invariant.high);
      }
      | else-faith-c w ↦ record {
        low = rw w.faithfulness-is (IsShownBelow-out c.loop-c.faithfulness (is_faithfulness faith) k w.if-faith-c.false c.loop-c.invariant.low);
        high = rw (w.markedness-is, w.bit_of-markedness.ensures) (IsShownBelow-in c.loop-c.markedness (is_markedness faith) k (kind ∙ ap not w.if-faith-c.false) c.loop-c.invariant.high);
      }
    ]

pub returns-clause-faithfulness : goal.returns-clause-faithfulness
returns-clause-faithfulness c = IsShownBelow-whole _ (is_faithfulness c.args.faith.now) c.loop-c.c (λ k past. get_or_past c.args.faith.now k false (omega (arith, c.loop-c-test.false))) c.loop-c.invariant.low

pub returns-clause-markedness : goal.returns-clause-markedness
returns-clause-markedness c = IsShownBelow-whole _ (is_markedness c.args.faith.now) c.loop-c.c (λ k past. ap not (get_or_past c.args.faith.now k true (omega (arith, c.loop-c-test.false)))) c.loop-c.invariant.high
