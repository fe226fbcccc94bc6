use Rattle.std.proofs.Common.{◌+◌, arith, inl, inr}
use Rattle.std.proofs.lemmas.Bool.{cases_lt}
use Rattle.cut_list.proofs.Fronts.{front-fewer}
use Rattle.cut_list.proofs.front.common_front.Goals as goal

pub returns-clause-greatest : goal.returns-clause-greatest
returns-clause-greatest c = λ n within_before within_classes same.
    let front = c.front_by.result in
    elim (cases_lt front n) [
      | inl more ↦ absurd (c.front_by.ensures.ended (omega (arith, more, within_before)) (omega (arith, more, within_classes)) (front-fewer (front + 1) n c.args.before.now c.args.classes.now (omega (arith, more)) same))
      | inr all ↦ all
    ]
