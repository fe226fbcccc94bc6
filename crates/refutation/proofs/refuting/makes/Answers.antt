use Rattle.refutation.proofs.refuting.makes.Goals as goal

pub returns-in-Loser : goal.returns-in-Loser
returns-in-Loser c = rw c.in-Loser.is (c.has_class.ensures c.in-Loser.loser.0)
