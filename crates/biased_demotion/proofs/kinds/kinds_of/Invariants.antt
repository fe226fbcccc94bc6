-- the constraints so far, by kind
use Rattle.biased_demotion.specs.Biased.{is_faithfulness, is_markedness}
use Rattle.biased_demotion.proofs.Shown.{IsShownBelow}
use Rattle.biased_demotion.proofs.kinds.kinds_of.Given as goal

abbrev pub invariant-loop-c : goal.invariant-loop-c
invariant-loop-c l = record {
  low : IsShownBelow l.faithfulness (is_faithfulness l.faith) l.c;
  high : IsShownBelow l.markedness (is_markedness l.faith) l.c;
}
