-- The certificate of what the classes ask is that of all terms of the prefix.
use Rattle.std.proofs.Common.{◌≡◌, ◌∙◌, ℕ, List, true, ap, sym}
use Rattle.std.proofs.lemmas.Result.{IfOk-weaker}
use Rattle.ot_theory.specs.declared.Mark.{Mark}
use Rattle.ot_theory.specs.Languages.{refuted, terms_of}
use Rattle.ot_theory.specs.Problems.{Problem}
use Rattle.ot_theory.specs.Refutations.{certificate_of, refutes}
use Rattle.violation_profiles.specs.WellFormed.{IsPrefix, IsWellFormed}
use Rattle.refutation.specs.Asked.{AreAsked}
use Rattle.refutation.specs.Prefixes.{class_numbers}
use Rattle.refutation.specs.Terms.{terms_in}
use Rattle.refutation.specs.declared.contradiction.Contradiction.{Contradiction}
use Rattle.refutation.specs.declared.term.Term.{Term}
use Rattle.refutation.proofs.Asking.{asked-certificate, asked-genuine, asked-one, asked-refuted}
use Rattle.refutation.proofs.TermsOfPrefixes.{certificate-refutes}
use Rattle.search_deeds.proofs.ready.certificate_asked.Goals as goal

pub core_of_conditions-requires-clause-genuine : goal.core_of_conditions-requires-clause-genuine
core_of_conditions-requires-clause-genuine c =
    rw c.as_slice.ensures.value (asked-genuine c.args.p.now (class_numbers c.args.prefix.now) c.args.asked.terms.items c.args.asked.conditions.items c.requires.prefix c.requires.asked)

pub core_of_conditions-requires-clause-one : goal.core_of_conditions-requires-clause-one
core_of_conditions-requires-clause-one c =
    rw c.as_slice.ensures.value (asked-one c.args.p.now (class_numbers c.args.prefix.now) c.args.asked.terms.items c.args.asked.conditions.items c.requires.asked)

pub core_of_conditions-requires-clause-hopeless : goal.core_of_conditions-requires-clause-hopeless
core_of_conditions-requires-clause-hopeless c =
    sym (asked-refuted c.args.p.now (class_numbers c.args.prefix.now) c.args.asked.terms.items c.args.asked.conditions.items c.inputs.ensures.well_formed c.requires.prefix c.requires.asked) ∙ c.requires.refuted

-- the certificate of these terms is that of the prefix
own : (problem : Problem) (prefix : List ℕ) (terms these : List Term) (conditions : List (List Mark)) → IsWellFormed problem → IsPrefix problem prefix → AreAsked problem (terms_of problem prefix) terms conditions → refuted problem prefix ≡ true
    → these ≡ terms → (core : Contradiction) → terms_in core.terms ≡ certificate_of problem (terms_in these) → terms_in core.terms ≡ certificate_of problem (terms_of problem prefix)
own problem prefix terms these conditions well p h gone same core e =
    e ∙ ap (λ (l : List Term). certificate_of problem (terms_in l)) same ∙ asked-certificate problem prefix terms conditions well p h gone

pub returns-clause-certificate : goal.returns-clause-certificate
returns-clause-certificate c =
    let problem = c.args.p.now in
    let prefix = class_numbers c.args.prefix.now in
    IfOk-weaker c.core_of_conditions.result (λ core. terms_in core.terms ≡ certificate_of problem (terms_in c.as_slice.result.now)) (λ core. terms_in core.terms ≡ certificate_of problem (terms_of problem prefix))
    (own problem prefix c.args.asked.terms.items c.as_slice.result.now c.args.asked.conditions.items c.inputs.ensures.well_formed c.requires.prefix c.requires.asked c.requires.refuted c.as_slice.ensures.value) c.core_of_conditions.ensures.certificate

pub returns-clause-refutes : goal.returns-clause-refutes
returns-clause-refutes c =
    let problem = c.args.p.now in
    let prefix = class_numbers c.args.prefix.now in
    IfOk-weaker c.core_of_conditions.result (λ core. terms_in core.terms ≡ certificate_of problem (terms_in c.as_slice.result.now)) (λ core. refutes (terms_in core.terms) prefix ≡ true)
    (λ core e. certificate-refutes problem prefix (terms_in core.terms)
    (own problem prefix c.args.asked.terms.items c.as_slice.result.now c.args.asked.conditions.items c.inputs.ensures.well_formed c.requires.prefix c.requires.asked c.requires.refuted c.as_slice.ensures.value core e)) c.core_of_conditions.ensures.certificate
