use Rattle.std.proofs.Common.{◌∙◌, ap, ◌++◌}
use Rattle.refutation.proofs.Implied.{asked-append}
use Rattle.refutation.proofs.asked.Asked.append.Goals as goal

pub returns-clause-asked : goal.returns-clause-asked
returns-clause-asked c problem whole others asked other =
    asked-append problem whole others c.args.self.now.terms.items c.args.other.now.terms.items c.extend_from_slice.new.self.items c.args.self.now.conditions.items c.args.other.now.conditions.items c.extend_from_slice-2.new.self.items
    (c.in_ok-extend_from_slice.ensures.items ∙ ap (λ l. c.args.self.now.terms.items ++ l) c.as_slice.ensures.value) (c.in_ok-extend_from_slice-2.ensures.items ∙ ap (λ l. c.args.self.now.conditions.items ++ l) c.as_slice-2.ensures.value) asked other
