-- what passes of the conditions so far is kept
use Rattle.std.proofs.Common.{◌≡◌, take}
use Rattle.std.specs.Prelude.{filter}
use Rattle.fusional_reduction.specs.Chosen.{wins_in}
use Rattle.fusional_reduction.proofs.masks.with_wins.Given as goal

abbrev pub invariant-loop-condition : goal.invariant-loop-condition
invariant-loop-condition l = l.kept.items ≡ filter (wins_in l.mask) (take l.condition-index l.set)
