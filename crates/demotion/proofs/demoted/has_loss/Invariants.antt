-- none of the marks so far is L
use Rattle.std.proofs.Common.{◌≡◌, false, take}
use Rattle.std.specs.List.{list_any}
use Rattle.ot_theory.specs.Conditions.{is_loss}
use Rattle.demotion.proofs.demoted.has_loss.Given as goal

abbrev pub invariant-loop-k : goal.invariant-loop-k
invariant-loop-k l = list_any is_loss (take l.k l.condition) ≡ false
