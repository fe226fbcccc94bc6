use Rattle.refutation.proofs.Implied.{asked-implied, asked-pushed}
use Rattle.refutation.proofs.asked.Asked.add_term.Goals as goal

pub returns-then-is_implied-clause-asked : goal.returns-then-is_implied-clause-asked
returns-then-is_implied-clause-asked c whole asked =
    asked-implied c.args.p.now whole c.args.self.now.terms.items c.args.self.now.conditions.items c.args.term c.condition_of-condition.result c.condition_of-condition.ensures.marks
    (rw c.as_slice.ensures.value at (c.is_implied.ensures c.if-is_implied.true)) asked

pub returns-clause-asked : goal.returns-clause-asked
returns-clause-asked c whole asked =
    asked-pushed c.args.p.now whole c.args.self.now.terms.items c.keep.new.self.terms.items c.args.self.now.conditions.items c.keep.new.self.conditions.items c.args.term c.condition_of-condition.result
    c.condition_of-condition.ensures.marks c.condition_of-condition.ensures.width c.in_ok-keep.ensures.terms c.in_ok-keep.ensures.conditions asked
