use Rattle.std.proofs.Common.{◌≡◌, eqb, List, [], ◌∷◌, true, refl, sym, ◌∙◌, take, length}
use Rattle.std.specs.Cmp.Lexicographic.{pointwise}
use Rattle.std.proofs.lemmas.Bool.{and_parts, eqb-true}
use Rattle.std.proofs.lemmas.List.{take-map}
use Rattle.ot_base.specs.declared.tableau.ClassId.{ClassId}
use Rattle.ot_base.specs.contracts.tableau.ClassIdPartialEq.TheImpl.{eq-value}
use Rattle.refutation.specs.Prefixes.{class_numbers}
use Rattle.typology_workers.proofs.memo.begins.Goals as goal

alike : (front classes : List ClassId) → pointwise eq-value.it front classes ≡ true → class_numbers front ≡ class_numbers classes
alike [] [] h = refl
alike [] (class ∷ classes) h = absurd (cc)
alike (class ∷ front) [] h = absurd (cc)
alike (class ∷ front) (other ∷ classes) h =
    let parts = and_parts (eqb class.0 other.0) (pointwise eq-value.it front classes) h in
    let same = eqb-true class.0 other.0 parts.0 in
    let rest = alike front classes parts.1 in
    cc

pub returns-then-front-prefix-clause-front : goal.returns-then-front-prefix-clause-front
returns-then-front-prefix-clause-front c = λ h.
    alike c.args.front.now (take (length c.args.front.now) c.args.prefix.now) (sym c.starts_with.ensures.value ∙ h)
    ∙ sym (take-map (λ (class : ClassId). class.0) (length c.args.front.now) c.args.prefix.now)
