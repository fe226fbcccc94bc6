-- A class is the winner of its input or not, and a given pair changes nothing.
use Rattle.std.proofs.Common.{◌<◌, length}
use Rattle.refutation.proofs.SoFar.{agrees-one, given-one, AreWinners-given, AreWinners-push}
use Rattle.refutation.proofs.contradiction.agrees.Goals as goal

pub has_winner-requires : goal.has_winner-requires
has_winner-requires c = rw c.in-Loser.is at c.requires

pub returns-in-Loser-clause-one : goal.returns-in-Loser-clause-one
returns-in-Loser-clause-one c terms h one =
    let below : c.in-Loser.input.0 < length c.args.winners.now = rw c.in-Loser.is at c.requires in
    rw c.in-Loser.is (agrees-one terms c.in-Loser.input.0 c.in-Loser.winner c.in-Loser.loser.0 c.args.winners.now c.has_winner.result h one below c.has_winner.ensures.agrees)

pub returns-in-Loser-clause-winners : goal.returns-in-Loser-clause-winners
returns-in-Loser-clause-winners c terms h =
    rw c.in-Loser.is (AreWinners-push terms c.in-Loser.input.0 c.in-Loser.winner c.in-Loser.loser.0 c.args.winners.now c.has_winner.new.winners h c.has_winner.ensures.length c.has_winner.ensures.chosen c.has_winner.ensures.others)

pub returns-in-Given-clause-one : goal.returns-in-Given-clause-one
returns-in-Given-clause-one c terms h one = rw c.in-Given.is (given-one terms c.in-Given.field-0 one)

pub returns-in-Given-clause-winners : goal.returns-in-Given-clause-winners
returns-in-Given-clause-winners c terms h = rw c.in-Given.is (AreWinners-given terms c.in-Given.field-0 c.args.winners.now h)
