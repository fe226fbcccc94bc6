use Rattle.std.proofs.lemmas.Result.{on_ok_weaker}
use Rattle.ot_theory.specs.Languages.{classes_at, terms_of_class}
use Rattle.typology_core.proofs.walk.ask.Goals as goal

pub returns-then-needed-clause-asked : goal.returns-then-needed-clause-asked
returns-then-needed-clause-asked c =
    on_ok_weaker c.append_needed.result (λ more whole asked. more c.args.p.now whole (terms_of_class (classes_at c.args.p.now c.args.input.0) c.args.input.0 c.args.class.0) asked (c.in-Some.ensures c.args.p.now c.requires.made)) c.append_needed.ensures.asked

pub returns-else-needed-clause-asked : goal.returns-else-needed-clause-asked
returns-else-needed-clause-asked c =
    on_ok_weaker c.append.result (λ more whole asked. more c.args.p.now whole (terms_of_class (classes_at c.args.p.now c.args.input.0) c.args.input.0 c.args.class.0) asked (c.in-Some.ensures c.args.p.now c.requires.made)) c.append.ensures.asked
