-- the rows of the first classes are written
use Rattle.std.proofs.Common.{◌≡◌, ℕ, List, ◌++◌, take, flat_map}
use Rattle.std.specs.List.{enumerate_from}
use Rattle.ot_theory.specs.Languages.{classes_at, profile_at}
use Rattle.report_text.specs.Reports as reports
use Rattle.report_text.proofs.tableaux.put_rows.Given as goal

abbrev pub row_line : List ℕ → ℕ → List ℕ → ℕ × List ℕ → List ℕ
row_line order w winning (a, profile) = reports.row_line order w winning a profile

abbrev pub invariant-loop-a : goal.invariant-loop-a
invariant-loop-a l =
    l.text ≡ l.initial.text ++ flat_map (row_line l.order l.winner.0 (profile_at l.problem l.i.0 l.winner.0)) (enumerate_from 0 (take l.a (classes_at l.problem l.i.0)))
