-- the L's of what passes of the conditions so far
use Rattle.std.proofs.Common.{take}
use Rattle.std.specs.Prelude.{filter}
use Rattle.ot_theory.specs.Conditions.{is_loss}
use Rattle.erc_fusion.specs.Joined.{IsJoined}
use Rattle.fusional_reduction.specs.Chosen.{lacks_in}
use Rattle.fusional_reduction.proofs.masks.losses_lacking.Given as goal

abbrev pub invariant-loop-condition : goal.invariant-loop-condition
invariant-loop-condition l = IsJoined is_loss (filter (lacks_in l.mask) (take l.condition-index l.set)) l.losses
