use Rattle.std.proofs.Common.{◌≡◌, ◌-◌, ◌+◌, ◌*◌, ℕ, [], arith, length, sym, ◌∙◌, subst, suc, eqb-true}
use Rattle.std.proofs.lemmas.Bool.{eqb-false}
use Rattle.std.specs.Prelude.{slice_index_or}
use Rattle.std.proofs.lemmas.List.{length-map, nil_from_length}
use Rattle.ot_base.specs.declared.tableau.ClassId.{ClassId}
use Rattle.refutation.specs.Prefixes.{class_numbers}
use Rattle.search_deeds.specs.Indexed.{HoldsRefuting}
use Rattle.search_deeds.proofs.Choices.{class-at, last_place-within, HoldsRefuting-index, HoldsRefuting-none}
use Rattle.search_deeds.proofs.index.Index.last_of.Goals as goal

pub returns-clause-within : goal.returns-clause-within
returns-clause-within c =
    let classes = c.args.prefix.now in
    let some = eqb-false (length classes) 0 (sym c.is_empty.ensures ∙ c.if-is_empty.false) in
    last_place-within c.args.p.now classes c.args.self.now.widest (length classes - 1) c.args.self.now.places.items (omega (arith, some)) c.requires.prefix c.requires.laid_out

pub returns-then-is_empty-clause-refuting : goal.returns-then-is_empty-clause-refuting
returns-then-is_empty-clause-refuting c = λ certificates index genuine shortest.
    let none = nil_from_length c.args.prefix.now (eqb-true _ _ (sym c.is_empty.ensures ∙ c.if-is_empty.true)) in
    rw (none, c.inputs-then-is_empty.ensures.value) (HoldsRefuting-none c.args.p.now certificates c.args.self.now.widest c.args.self.now.places.items index)

pub returns-clause-refuting : goal.returns-clause-refuting
returns-clause-refuting c = λ certificates index genuine shortest.
    let problem = c.args.p.now in
    let classes = c.args.prefix.now in
    let places = c.args.self.now.places.items in
    let k = length classes - 1 in
    let some = eqb-false (length classes) 0 (sym c.is_empty.ensures ∙ c.if-is_empty.false) in
    let long : length (class_numbers classes) ≡ suc k = omega (arith, some, length-map classes (λ (class : ClassId). class.0)) in
    let same = class-at classes k (omega (arith, some)) in
    subst (λ (class : ℕ). HoldsRefuting certificates (class_numbers classes) (slice_index_or places (k * c.args.self.now.widest + class) [])) same
    (HoldsRefuting-index problem certificates c.args.self.now.widest places (class_numbers classes) k c.inputs.ensures.well_formed c.requires.prefix long (shortest k (omega (arith, some))) index genuine)
