-- those of the conditions so far, and those of the rest behind them
use Rattle.std.proofs.Common.{◌≡◌, ◌++◌, drop}
use Rattle.std.specs.Prelude.{filter}
use Rattle.ot_theory.specs.Conditions.{has_both}
use Rattle.otsoft_run.proofs.bases.with_both.Given as goal

abbrev pub invariant-loop-condition : goal.invariant-loop-condition
invariant-loop-condition l = l.list ++ filter has_both (drop l.condition-index l.set) ≡ filter has_both l.set
