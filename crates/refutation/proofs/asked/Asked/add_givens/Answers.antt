use Rattle.std.proofs.Common.{◌≡◌, ◌++◌, ap, arith, length, map}
use Rattle.std.proofs.lemmas.List.{append-nil, length-map}
use Rattle.ot_theory.specs.Languages as theory
use Rattle.ot_theory.specs.Problems.{givens}
use Rattle.ot_base.specs.Tableaus.{pair_of}
use Rattle.ot_theory.specs.Rankings.{numbers_below}
use Rattle.refutation.proofs.Implied.{asked-given}
use Rattle.refutation.proofs.asked.Asked.add_givens.Goals as goal

pub loop-k-init : goal.loop-k-init
loop-k-init c whole asked = rw append-nil asked

pub loop-k-preserved : goal.loop-k-preserved
loop-k-preserved c whole asked =
    asked-given c.args.p.now whole c.loop-k.k c.add_term.new.self.terms.items c.add_term.new.self.conditions.items
    (c.in_ok-add_term.ensures.asked (whole ++ map theory.Given (numbers_below c.loop-k.k)) (c.loop-k.invariant whole asked))

pub returns : goal.returns
returns c whole asked =
    let all : c.loop-k.k ≡ length (givens c.args.p.now) =
    omega (arith, c.loop-k-test.false, c.loop-k.auto.k-end, length-map c.givens-k-end.result.now pair_of, ap (λ (l : _). length l) c.givens-k-end.ensures.value) in
    rw all at (c.loop-k.invariant whole asked)
