-- the masks of the conditions so far, in lanes
use Rattle.ot_theory.specs.Conditions.{is_win, is_loss}
use Rattle.erc_fusion.proofs.Fused.{AreLanes}
use Rattle.erc_fusion.proofs.fusion.joined_in_lanes.Given as goal

abbrev pub invariant-loop-k : goal.invariant-loop-k
invariant-loop-k l = record {
  wins : AreLanes is_win l.set l.k l.wins;
  losses : AreLanes is_loss l.set l.k l.losses;
}
