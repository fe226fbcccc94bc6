-- no input so far has more classes
use Rattle.std.proofs.Common.{◌<◌, ◌≤◌, ℕ, length}
use Rattle.ot_base.specs.declared.limits.TheConstants.{CANDIDATE_LIMIT}
use Rattle.ot_theory.specs.Languages.{classes_at}
use Rattle.search_deeds.proofs.index.widest.Given as goal

abbrev pub invariant-loop-i : goal.invariant-loop-i
invariant-loop-i l = record {
  wide : (j : ℕ) → j < l.i → length (classes_at l.p j) ≤ l.widest;
  small : l.widest ≤ CANDIDATE_LIMIT;
}
