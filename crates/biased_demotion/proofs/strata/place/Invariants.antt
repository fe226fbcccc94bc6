use Rattle.biased_demotion.proofs.Rounds.{left_by}
use Rattle.ot_theory.proofs.Placing.{ArePlaced}
use Rattle.biased_demotion.proofs.strata.place.Given as goal

abbrev pub invariant-loop-c : goal.invariant-loop-c
invariant-loop-c l = ArePlaced (left_by l.stratum) l.given l.initial.levels l.c l.placed l.levels
