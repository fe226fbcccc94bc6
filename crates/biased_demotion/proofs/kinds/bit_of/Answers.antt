use Rattle.std.proofs.lemmas.Nat.{one_shl}
use Rattle.biased_demotion.proofs.kinds.bit_of.Goals as goal

pub returns : goal.returns
returns c = one_shl c.args.c 64 c.requires
