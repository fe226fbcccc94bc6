-- the W's of the conditions so far
use Rattle.std.proofs.Common.{take}
use Rattle.ot_theory.specs.Conditions.{is_win}
use Rattle.erc_fusion.specs.Joined.{IsJoined}
use Rattle.fusional_reduction.proofs.masks.joined_wins.Given as goal

abbrev pub invariant-loop-condition : goal.invariant-loop-condition
invariant-loop-condition l = IsJoined is_win (take l.condition-index l.set) l.wins
