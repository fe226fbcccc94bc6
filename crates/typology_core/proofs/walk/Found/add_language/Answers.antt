use Rattle.std.proofs.Common.{◌∙◌, ap, refl}
use Rattle.std.proofs.lemmas.Result.{on_ok_weaker}
use Rattle.refutation.specs.Prefixes.{class_numbers}
use Rattle.typology_core.specs.Walked.{prefix_of}
use Rattle.typology_core.proofs.Walking.{with-language}
use Rattle.typology_core.proofs.walk.Found.add_language.Goals as goal

pub returns-clause-found : goal.returns-clause-found
returns-clause-found c =
    on_ok_weaker c.push.result (λ pushed. (with-language c.args.p.now c.args.self.now (record { languages = c.push.new.self; cuts = c.args.self.now.cuts; certificates = c.args.self.now.certificates; index = c.args.self.now.index })
    (record { choice = c.in_ok-of.field-0; strata = c.args.strata }) c.args.strata (prefix_of c.args.path.now) c.requires.found (c.in_ok-of.ensures ∙ ap class_numbers c.as_slice.ensures.value) refl c.requires.least pushed refl refl refl).0) c.push.ensures.ok
