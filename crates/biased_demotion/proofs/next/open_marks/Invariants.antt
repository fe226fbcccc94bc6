-- what those of the conditions so far say that are open
use Rattle.std.proofs.Common.{take}
use Rattle.ot_theory.specs.Demotion.{is_blocked}
use Rattle.demotion.specs.Placed.{levels_of}
use Rattle.biased_demotion.specs.Biased.{has_open_win}
use Rattle.biased_demotion.specs.Shown.{Shows}
use Rattle.biased_demotion.proofs.next.open_marks.Given as goal

abbrev pub invariant-loop-condition : goal.invariant-loop-condition
invariant-loop-condition l = record {
  losses : Shows l.losses (is_blocked (levels_of l.placed) (take l.condition-index l.set));
  wins : Shows l.wins (has_open_win (levels_of l.placed) (take l.condition-index l.set));
}
