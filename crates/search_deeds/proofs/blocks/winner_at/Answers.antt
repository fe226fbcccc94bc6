use Rattle.search_deeds.proofs.Admitting.{term-made}
use Rattle.search_deeds.proofs.blocks.winner_at.Goals as goal

pub returns-in-Some : goal.returns-in-Some
returns-in-Some c = λ prefix made. c.in-Some.ensures prefix (term-made c.args.terms.now c.loop-term.term-index prefix c.loop-term-test.true made)
