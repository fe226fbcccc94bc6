-- the numbers so far, and what stood behind them
use Rattle.std.proofs.Common.{◌≡◌, ◌++◌, map, take, drop}
use Rattle.erc_vectors.proofs.order.put_numbers.Given as goal

abbrev pub invariant-loop-k : goal.invariant-loop-k
invariant-loop-k l = l.to ≡ map (λ c. c.0) (take l.k l.from) ++ drop l.k l.initial.to
