use Rattle.search_deeds.proofs.Choices.{last-given}
use Rattle.search_deeds.proofs.index.last_with.Goals as goal

pub returns-in-Loser : goal.returns-in-Loser
returns-in-Loser c terms h = rw c.in-Loser.is (c.later.ensures terms c.in-Loser.loser.0 h)

pub returns-in-Given : goal.returns-in-Given
returns-in-Given c terms h = rw c.in-Given.is (last-given terms c.in-Given.field-0 c.args.last h)
