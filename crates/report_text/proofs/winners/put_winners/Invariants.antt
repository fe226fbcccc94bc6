-- the lines of the first inputs are written
use Rattle.std.proofs.Common.{◌≡◌, ℕ, List, [], ◌∷◌, ◌++◌, take, flat_map, codes, decimal}
use Rattle.std.specs.List.{enumerate_from}
use Rattle.ot_theory.specs.Problems.{Input}
use Rattle.report_text.specs.Spelling.{line, winner}
use Rattle.report_text.proofs.winners.put_winners.Given as goal

abbrev pub winner_line : ℕ × Input → List ℕ
winner_line (i, input) = line (codes "winner" ∷ decimal i ∷ winner input.winner ∷ [])

abbrev pub invariant-loop-i : goal.invariant-loop-i
invariant-loop-i l = l.text ≡ l.initial.text ++ flat_map winner_line (enumerate_from 1 (take l.i l.problem.inputs))
