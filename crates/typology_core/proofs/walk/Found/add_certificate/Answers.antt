use Rattle.std.proofs.Common.{◌≡◌, ◌∙◌, sym, ap, length, List, [], ◌∷◌, ◌++◌}
use Rattle.std.specs.Prelude.{OnOk, map}
use Rattle.ot_theory.specs.Languages.{condition_of}
use Rattle.std.proofs.lemmas.List.{length-map}
use Rattle.std.proofs.lemmas.Result.{on_ok_weaker}
use Rattle.refutation.specs.Prefixes.{class_numbers}
use Rattle.refutation.specs.Typologies.{certificates_of}
use Rattle.refutation.specs.declared.contradiction.Contradiction.{Contradiction}
use Rattle.refutation.specs.declared.term.Term.{Term}
use Rattle.refutation.specs.declared.typology.Cut.{Cut}
use Rattle.ot_theory.specs.Refutations.{certificate_of}
use Rattle.typology_core.specs.Walked.{prefix_of}
use Rattle.refutation.specs.Terms.{terms_in}
use Rattle.search_deeds.proofs.Admitting.{HaveRoom-blocked}
use Rattle.typology_core.proofs.Walking.{path-genuine, path-one, path-hopeless, path-certificate, with-new-cut, IsWithCut, index-new, cut-same}
use Rattle.typology_core.proofs.walk.Found.add_certificate.Goals as goal

pub core_of_conditions-requires-clause-genuine : goal.core_of_conditions-requires-clause-genuine
core_of_conditions-requires-clause-genuine c = rw c.as_slice-2.ensures.value (path-genuine c.args.p.now c.args.path.now c.requires.path)

pub core_of_conditions-requires-clause-one : goal.core_of_conditions-requires-clause-one
core_of_conditions-requires-clause-one c = rw c.as_slice-2.ensures.value (path-one c.args.p.now c.args.path.now c.requires.path)

pub core_of_conditions-requires-clause-hopeless : goal.core_of_conditions-requires-clause-hopeless
core_of_conditions-requires-clause-hopeless c =
    rw (c.in_ok-conditions.ensures ∙ c.as_slice.ensures.value ∙ c.requires.path.asked.each) (sym (path-hopeless c.args.p.now c.args.path.now c.inputs.ensures.well_formed c.requires.path) ∙ c.requires.refuted)

pub core_of_conditions-requires-clause-conditions : goal.core_of_conditions-requires-clause-conditions
core_of_conditions-requires-clause-conditions c = c.in_ok-conditions.ensures ∙ c.as_slice.ensures.value ∙ c.requires.path.asked.each ∙ sym (ap (λ (l : List Term). map (condition_of c.args.p.now) (terms_in l)) c.as_slice-2.ensures.value)

pub core_of_conditions-requires-clause-widths : goal.core_of_conditions-requires-clause-widths
core_of_conditions-requires-clause-widths c = rw (c.in_ok-conditions.ensures ∙ c.as_slice.ensures.value) c.requires.path.asked.widths

pub add-requires-clause-room : goal.add-requires-clause-room
add-requires-clause-room c = HaveRoom-blocked (certificates_of c.args.self.now.certificates) _ _ c.requires.found.indexed.blocked

with_cut : (c : goal.After-add_cut) → OnOk c.add_cut.result (IsWithCut c.args.p.now (prefix_of c.args.path.now) c.args.self.now c.add_cut.new.self)
with_cut c =
    let problem = c.args.p.now in
    let path = c.args.path.now in
    let core = c.in_ok-certificate.certificate in
    let own = path-certificate problem path (terms_in core.terms) c.inputs.ensures.well_formed c.requires.path c.requires.refuted (c.in_ok-certificate.ensures.certificate ∙ ap (λ (l : List Term). certificate_of problem (terms_in l)) c.as_slice-2.ensures.value) in
    let certificates : c.add_cut.new.self.certificates ≡ c.args.self.now.certificates ++ core ∷ [] = c.add_cut.ensures.certificates ∙ c.in_ok-push.ensures.ok in
    let count = length-map c.args.self.now.certificates (λ (d : Contradiction). terms_in d.terms) ∙ sym c.len-place.ensures in
    let indexed = c.in_ok-add.ensures.places (certificates_of c.args.self.now.certificates) count c.requires.found.indexed.places in
    let blocked = c.in_ok-add.ensures.blocked (certificates_of c.args.self.now.certificates) count c.requires.found.indexed.places c.requires.found.indexed.blocked in
    on_ok_weaker c.add_cut.result (λ pushed. with-new-cut problem c.args.self.now c.add_cut.new.self (prefix_of path) core c.requires.found c.requires.fresh own c.in_ok-certificate.ensures.contradiction certificates
    (index-new problem c.args.self.now c.add_cut.new.self core c.add.new.self c.as_slice-3.result.now certificates c.add_cut.ensures.index c.as_slice-3.ensures indexed blocked)
    (pushed ∙ ap (λ (cut : Cut). c.args.self.now.cuts ++ cut ∷ []) (cut-same (class_numbers c.as_slice-4.result.now) (prefix_of path) c.len-place.result (length c.args.self.now.certificates) (ap class_numbers c.as_slice-4.ensures.value) c.len-place.ensures))
    c.add_cut.ensures.languages) c.add_cut.ensures.cuts

pub returns-clause-found : goal.returns-clause-found
returns-clause-found c = on_ok_weaker c.add_cut.result (λ w. w.sound) (with_cut c)

pub returns-clause-more : goal.returns-clause-more
returns-clause-more c = on_ok_weaker c.add_cut.result (λ w. w.grown) (with_cut c)
