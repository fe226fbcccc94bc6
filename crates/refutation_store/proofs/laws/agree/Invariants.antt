use Rattle.refutation_store.proofs.Learnt.{AgreeBelow}
use Rattle.refutation_store.proofs.laws.agree.Given as goal

abbrev pub invariant-loop-place : goal.invariant-loop-place
invariant-loop-place l = AgreeBelow l.place l.f.values l.g.values
