use Rattle.std.proofs.Common.{map, length}
use Rattle.erc_vectors.proofs.Seen.{AreSeen}
use Rattle.erc_vectors.proofs.order.is_ranking.Given as goal

abbrev pub invariant-loop-c : goal.invariant-loop-c
invariant-loop-c l = AreSeen (length l.list) (map (λ c. c.0) l.list) l.c-index l.seen
