-- the masks of the marks so far
use Rattle.std.proofs.Common.{◌*◌, take}
use Rattle.ot_theory.specs.Conditions.{condition, is_win, is_loss}
use Rattle.erc_vectors.specs.Masks.{IsMask}
use Rattle.violation_profiles.proofs.masks.masks_of.Given as goal

abbrev pub invariant-loop-k : goal.invariant-loop-k
invariant-loop-k l = record {
  wins : IsMask is_win (take (4 * l.k) (condition l.winner l.loser)) l.wins;
  losses : IsMask is_loss (take (4 * l.k) (condition l.winner l.loser)) l.losses;
}

abbrev pub invariant-loop-c : goal.invariant-loop-c
invariant-loop-c l = record {
  wins : IsMask is_win (take l.c (condition l.winner l.loser)) l.wins;
  losses : IsMask is_loss (take l.c (condition l.winner l.loser)) l.losses;
}
