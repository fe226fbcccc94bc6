use Rattle.std.proofs.Common.{◌≡◌, true, length, take}
use Rattle.ot_base.specs.declared.limits.TheConstants.{INPUT_LIMIT}
use Rattle.ot_theory.specs.Refutations.{one_winner_each}
use Rattle.refutation.specs.Terms.{terms_in}
use Rattle.refutation.specs.Winners.{AreWinners}
use Rattle.refutation.proofs.contradiction.have_one_winner_each.Given as goal

-- the winners are those of the terms so far, which have one for each input
abbrev pub invariant-loop-term : goal.invariant-loop-term
invariant-loop-term l = record {
  places : length l.winners ≡ INPUT_LIMIT;
  seen : AreWinners (terms_in (take l.term-index l.terms)) l.winners;
  one : one_winner_each (terms_in (take l.term-index l.terms)) ≡ true;
}
