use Rattle.std.proofs.Common.{map}
use Rattle.ot_theory.proofs.Candidates.{Wins}
use Rattle.violation_profiles.proofs.winner.winning_candidate.Given as goal

abbrev pub invariant-loop-k : goal.invariant-loop-k
invariant-loop-k l = Wins (map (λ row. row.count) l.candidates) l.k l.winner l.greatest
