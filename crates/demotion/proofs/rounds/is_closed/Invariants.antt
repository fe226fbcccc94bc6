-- the constraints that are left decide as all do
use Rattle.std.proofs.Common.{◌≡◌, ◌-◌, ◌&&◌, length, slice_index}
use Rattle.std.specs.Prelude.{nat_lt}
use Rattle.std.specs.List.{list_any, range_with_len}
use Rattle.ot_theory.specs.Conditions.{is_win, mark_at}
use Rattle.ot_theory.specs.Demotion.{is_closed}
use Rattle.demotion.proofs.rounds.is_closed.Given as goal

abbrev pub invariant-loop-k : goal.invariant-loop-k
invariant-loop-k l =
    list_any (λ c. is_win (mark_at l.condition c) && nat_lt 0 (slice_index l.levels c)) (range_with_len l.k (length l.condition - l.k))
    ≡ is_closed l.levels l.condition
