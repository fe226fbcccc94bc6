-- the rounds so far, of which each placed a constraint
use Rattle.std.proofs.Common.{◌≡◌, ℕ, ◌+◌, ◌<◌, ◌≤◌, cond, length, slice_index}
use Rattle.std.specs.Prelude.{nat_lt}
use Rattle.std.specs.Int.{bit_at}
use Rattle.ot_theory.specs.Rankings.{count_of}
use Rattle.ot_theory.proofs.Demotion.{AreRounds}
use Rattle.demotion.proofs.rounds.place_in_rounds.Given as goal

abbrev pub invariant-loop-round : goal.invariant-loop-round
invariant-loop-round l = record {
  rounds : AreRounds (length l.initial.levels) l.set l.round l.levels;
  mask : (c : ℕ) → c < length l.initial.levels → bit_at l.placed c ≡ cond (nat_lt 0 (slice_index l.levels c)) 1 0;
  few : count_of 0 l.levels + l.round ≤ length l.initial.levels;
}
