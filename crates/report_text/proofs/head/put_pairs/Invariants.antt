-- the lines of the first given pairs are written
use Rattle.std.proofs.Common.{◌≡◌, ℕ, List, ◌++◌, take, flat_map}
use Rattle.std.specs.List.{enumerate_from}
use Rattle.ot_base.specs.Tableaus.{pairs_in}
use Rattle.ot_theory.specs.Problems.{Pair}
use Rattle.report_text.specs.Reports.{given_line}
use Rattle.report_text.proofs.head.put_pairs.Given as goal

abbrev pub pair_line : ℕ × Pair → List ℕ
pair_line (k, pair) = given_line k pair

abbrev pub invariant-loop-k : goal.invariant-loop-k
invariant-loop-k l = l.text ≡ l.initial.text ++ flat_map pair_line (enumerate_from 1 (take l.k (pairs_in l.pairs)))
