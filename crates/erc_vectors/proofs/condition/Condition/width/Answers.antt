use Rattle.erc_vectors.proofs.Bits.{width-seen}
use Rattle.erc_vectors.proofs.condition.Condition.width.Goals as goal

pub returns-clause-width : goal.returns-clause-width
returns-clause-width c = width-seen _ _ _ _ c.self.view_is
