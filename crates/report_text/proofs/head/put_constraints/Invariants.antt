-- the lines of the first k constraints are written
use Rattle.std.proofs.Common.{◌≡◌, ℕ, List, ◌++◌, ◌∷◌, [], take, flat_map, codes, decimal}
use Rattle.std.specs.List.{enumerate_from, zip}
use Rattle.report_text.specs.Spelling.{line}
use Rattle.report_text.proofs.head.put_constraints.Given as goal

abbrev pub constraint_line : ℕ × (List ℕ × List ℕ) → List ℕ
constraint_line (k, names) = line (codes "constraint" ∷ decimal k ∷ names.0 ∷ names.1 ∷ [])

abbrev pub invariant-loop-k : goal.invariant-loop-k
invariant-loop-k l = l.text ≡ l.initial.text ++ flat_map constraint_line (enumerate_from 1 (take l.k (zip l.abbreviations l.names)))
