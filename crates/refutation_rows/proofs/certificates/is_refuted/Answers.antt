use Rattle.std.proofs.Common.{◌≡◌, map, ap, sym, ◌∙◌}
use Rattle.ot_theory.specs.Languages.{condition_of, conditions_of}
use Rattle.ot_theory.proofs.Optimal.{refuted-conditions}
use Rattle.violation_profiles.proofs.Inputs.{AllFit-prefix}
use Rattle.refutation.specs.Prefixes.{class_numbers}
use Rattle.refutation.specs.Terms.{terms_in}
use Rattle.refutation_rows.proofs.certificates.is_refuted.Goals as goal

pub returns : goal.returns
returns c =
    let problem = c.args.problem.now in
    let prefix = class_numbers c.args.prefix.now in
    let those : c.deref.result.now ≡ conditions_of problem prefix =
    c.deref.ensures.value ∙ c.in_ok-conditions.ensures.conditions ∙ ap (map (condition_of problem)) (ap terms_in c.as_slice.ensures ∙ c.in_ok-terms.ensures.terms)
    in
    rw (c.is_hopeless.ensures, c.constraints.ensures.value, those) (sym (refuted-conditions problem prefix (AllFit-prefix problem prefix c.constraints.ensures.well_formed c.requires)))
