use Rattle.search_deeds.proofs.Admitting.{bit-kept, bit-set}
use Rattle.search_deeds.proofs.blocks.with_bit.Goals as goal

pub returns-then-given-clause-kept : goal.returns-then-given-clause-kept
returns-then-given-clause-kept c = λ b h. bit-kept c.args.word c.args.bit b c.requires h

pub returns-then-given-clause-set : goal.returns-then-given-clause-set
returns-then-given-clause-set c = λ given. bit-set c.args.word c.args.bit c.requires
