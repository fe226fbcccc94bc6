use Rattle.std.proofs.Common.{None}
use Rattle.std.proofs.lemmas.List.{get_or-replicate}
use Rattle.refutation.proofs.contradiction.no_winners.Goals as goal

pub returns-clause-none : goal.returns-clause-none
returns-clause-none c k d below = get_or-replicate 1000 k None d below
