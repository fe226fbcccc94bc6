-- the masks of the conditions in lanes and of those behind them so far
use Rattle.std.proofs.Common.{◌+◌, take}
use Rattle.ot_theory.specs.Conditions.{is_win, is_loss}
use Rattle.erc_fusion.specs.Joined.{IsJoined}
use Rattle.erc_fusion.proofs.fusion.joined.Given as goal

abbrev pub invariant-loop-condition : goal.invariant-loop-condition
invariant-loop-condition l = record {
  wins : IsJoined is_win (take (l.whole + l.condition-index) l.set) l.wins;
  losses : IsJoined is_loss (take (l.whole + l.condition-index) l.set) l.losses;
}
