-- those of the constraints so far that have a number
use Rattle.std.proofs.Common.{slice_index}
use Rattle.std.specs.Prelude.{nat_lt}
use Rattle.biased_demotion.proofs.Shown.{IsShownBelow}
use Rattle.biased_demotion.proofs.kinds.placed_in.Given as goal

abbrev pub invariant-loop-c : goal.invariant-loop-c
invariant-loop-c l = IsShownBelow l.placed (λ c. nat_lt 0 (slice_index l.levels c)) l.c
