-- the greatest number of the first constraints
use Rattle.std.proofs.Common.{◌≡◌, take, fold, max}
use Rattle.erc_vectors.proofs.strata.Strata.lowest.Given as goal

abbrev pub invariant-loop-level : goal.invariant-loop-level
invariant-loop-level l = l.lowest ≡ fold max 0 (take l.level-index l.level-items)
