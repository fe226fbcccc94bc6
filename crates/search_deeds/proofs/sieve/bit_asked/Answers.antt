use Rattle.std.proofs.Common.{refl}
use Rattle.search_deeds.proofs.sieve.bit_asked.Goals as goal

pub returns-in-Loser : goal.returns-in-Loser
returns-in-Loser c = rw c.in-Loser.is c.bit_of.ensures

pub returns-in-Given : goal.returns-in-Given
returns-in-Given c = rw c.in-Given.is refl
