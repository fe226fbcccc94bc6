-- what passes of the conditions so far is kept
use Rattle.std.proofs.Common.{◌≡◌, take, not}
use Rattle.std.specs.Prelude.{filter}
use Rattle.fusional_reduction.specs.Chosen.{wins_in}
use Rattle.fusional_reduction.proofs.masks.without_wins.Given as goal

abbrev pub invariant-loop-condition : goal.invariant-loop-condition
invariant-loop-condition l = l.kept.items ≡ filter (λ marks. not (wins_in l.mask marks)) (take l.condition-index l.set)
