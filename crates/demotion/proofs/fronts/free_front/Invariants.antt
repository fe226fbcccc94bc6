-- what is blocked before and by the conditions so far, which leave a constraint free
use Rattle.std.proofs.Common.{◌≡◌, ◌≢◌, ℕ, cond, max, take}
use Rattle.std.specs.Prelude.{bit_or}
use Rattle.std.specs.Int.{bit_at}
use Rattle.ot_theory.specs.Demotion.{is_blocked}
use Rattle.demotion.specs.Placed.{levels_of}
use Rattle.demotion.proofs.fronts.free_front.Given as goal

abbrev pub invariant-loop-k : goal.invariant-loop-k
invariant-loop-k l = record {
  free : bit_or l.placed l.blocked ≢ 18446744073709551615;
  bits : (c : ℕ) → bit_at l.blocked c ≡ max (bit_at l.before c) (cond (is_blocked (levels_of l.placed) (take l.k l.conditions) c) 1 0);
}
