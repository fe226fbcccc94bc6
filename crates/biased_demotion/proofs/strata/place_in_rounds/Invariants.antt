-- the rounds so far, of which each placed a constraint
use Rattle.std.proofs.Common.{◌+◌, ◌≤◌, length}
use Rattle.ot_theory.specs.Rankings.{count_of}
use Rattle.biased_demotion.proofs.Rounds.{AreBiasedRounds}
use Rattle.biased_demotion.proofs.strata.place_in_rounds.Given as goal

abbrev pub invariant-loop-round : goal.invariant-loop-round
invariant-loop-round l = record {
  rounds : AreBiasedRounds l.faith l.set l.round l.levels;
  few : count_of 0 l.levels + l.round ≤ length l.faith;
}
