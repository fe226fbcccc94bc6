use Rattle.std.proofs.Common.{◌≡◌, List, Some, [], ◌∷◌, ◌++◌, ap, sym, take, ◌∙◌}
use Rattle.std.specs.Prelude.{slice_get}
use Rattle.ot_base.specs.declared.tableau.ClassId.{ClassId}
use Rattle.refutation.specs.Prefixes.{class_numbers}
use Rattle.refutation.specs.declared.typology.Cut.{Cut}
use Rattle.cut_list.proofs.Steps.{before-more, taken-more}
use Rattle.cut_list.proofs.list.CutList.listed.Goals as goal

pub loop-k-preserved : goal.loop-k-preserved
loop-k-preserved c =
    let cuts = c.args.self.now in
    let change = c.change-change.result in
    let cut : Cut = record { prefix = class_numbers (take change.kept c.loop-k.prefix.items ++ change.own.now); certificate = change.certificate } in
    let classes : c.extend_from_slice.new.self.items ≡ take change.kept c.loop-k.prefix.items ++ change.own.now =
    c.in_ok-extend_from_slice.ensures.items ∙ ap (λ (l : List ClassId). l ++ change.own.now) c.truncate.ensures.items in
    let here : slice_get cuts c.loop-k.k ≡ Some cut = c.change-change.ensures c.loop-k.prefix.items c.loop-k.invariant.1 in
    let pushed : c.push.new.self ≡ c.loop-k.cuts ++ cut ∷ [] = rw (c.in_ok-of.ensures, c.as_slice.ensures.value, classes) at c.in_ok-push.ensures.ok in (
      pushed ∙ ap (λ (l : List Cut). l ++ cut ∷ []) c.loop-k.invariant.0 ∙ sym (taken-more cuts c.loop-k.k cut here),
      ap class_numbers classes ∙ sym (before-more cuts c.loop-k.k cut here),
    )
