-- No ranking keeps the terms of a refuted prefix, and their certificate refutes it.
use Rattle.std.proofs.Common.{◌∙◌, ap}
use Rattle.std.proofs.lemmas.Result.{IfOk-weaker}
use Rattle.ot_theory.specs.Refutations.{certificate_of}
use Rattle.refutation.specs.Prefixes.{class_numbers}
use Rattle.refutation.specs.Terms.{terms_in}
use Rattle.refutation.proofs.TermsOfPrefixes.{certificate-refutes, hopeless-of_prefix}
use Rattle.refutation.proofs.refuting.deletion_core.Goals as goal

pub core_of-requires-clause-hopeless : goal.core_of-requires-clause-hopeless
core_of-requires-clause-hopeless c =
    hopeless-of_prefix c.args.p.now (class_numbers c.args.prefix.now) c.as_slice.result.now c.inputs.ensures.well_formed c.requires.prefix (ap terms_in c.as_slice.ensures ∙ c.in_ok-terms.ensures.terms) c.requires.refuted

pub returns-clause-refutes : goal.returns-clause-refutes
returns-clause-refutes c =
    let prefix = class_numbers c.args.prefix.now in
    let those = ap terms_in c.as_slice.ensures ∙ c.in_ok-terms.ensures.terms in
    IfOk-weaker c.core_of.result _ _ (λ core certificate. certificate-refutes c.args.p.now prefix (terms_in core.terms) (certificate ∙ ap (certificate_of c.args.p.now) those)) c.core_of.ensures.certificate
