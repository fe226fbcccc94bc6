use Rattle.std.proofs.Common.{◌≡◌, ◌-◌, List, [], ◌∷◌, ◌++◌, arith, ap, refl, length, take, drop, ◌∙◌}
use Rattle.std.specs.Prelude.{⊤}
use Rattle.std.proofs.lemmas.List.{take_rest}
use Rattle.std.proofs.lemmas.Result.{MatchResult-from_err}
use Rattle.cut_list.specs.contracts.list.CutList as CutList
use Rattle.ot_base.specs.declared.tableau.ClassId.{ClassId}
use Rattle.refutation.specs.Prefixes.{class_numbers}
use Rattle.refutation.specs.declared.typology.Cut.{Cut}
use Rattle.cut_list.specs.declared.list.Step.{Step}
use Rattle.cut_list.proofs.Steps.{IsNext, cuts-same, next-seen, next-whole, whole-longer}
use Rattle.cut_list.proofs.list.CutList.push.Goals as goal
use Rattle.cut_list.proofs.list.CutList.push.Goals.{After-put_reserved}

pub invariant_of-self-in_err-push : goal.invariant_of-self-in_err-push
invariant_of-self-in_err-push c = rw (c.in_ok-extend_from_slice.ensures.items, c.in_err-push.ensures.items, c.reserve.ensures.items) (whole-longer _ _ _ _ c.self.invariant)

pub returns-in_err-push-clause-refused : goal.returns-in_err-push-clause-refused
returns-in_err-push-clause-refused c =
    MatchResult-from_err c.from_residual-in_err-push.result (λ v. ⊤) (λ e. CutList.the_view (record { steps = c.push.new.self; classes = c.extend_from_slice.new.self; last = c.reserve.new.self }) ≡ c.args.self.now) c.from_residual-in_err-push.ensures.0
    (λ e. rw (c.in_ok-extend_from_slice.ensures.items, c.in_err-push.ensures.items) (cuts-same _ _ _ _ c.self.invariant.within ∙ c.self.view_is))

abbrev step-of : After-put_reserved → Step
step-of c = record { kept = c.common_front-kept.result; start = c.len.result; count = length (take (length c.args.prefix.now - c.common_front-kept.result) (drop c.common_front-kept.result c.args.prefix.now)); certificate = c.args.certificate }

abbrev own-of : After-put_reserved → List ClassId
own-of c = take (length c.args.prefix.now - c.common_front-kept.result) (drop c.common_front-kept.result c.args.prefix.now)

next : (c : After-put_reserved) → IsNext c.self.inside.classes.items c.self.inside.last.items c.args.prefix.now (own-of c) (step-of c)
next c = record {
  start = omega (arith, c.len.ensures, c.self.inside.classes.ok.0);
  count = refl;
  front = rw (c.as_slice.ensures.value) at c.common_front-kept.ensures.same;
  rest = take_rest c.args.prefix.now c.common_front-kept.result;
}

pub invariant_of-self-2 : goal.invariant_of-self-2
invariant_of-self-2 c = rw (c.put_reserved.ensures, c.truncate.ensures.items, c.reserve.ensures.items, c.in_ok-push.ensures.items, c.in_ok-extend_from_slice.ensures.items) (next-whole _ _ c.args.prefix.now (own-of c) _ (step-of c) (next c) c.self.invariant)

pub returns-clause-ok : goal.returns-clause-ok
returns-clause-ok c = rw (c.in_ok-push.ensures.items, c.in_ok-extend_from_slice.ensures.items) (next-seen _ _ c.args.prefix.now (own-of c) _ (step-of c) (next c) c.self.invariant ∙ ap (λ (l : List Cut). l ++ record { prefix = class_numbers c.args.prefix.now; certificate = c.args.certificate } ∷ []) c.self.view_is)
