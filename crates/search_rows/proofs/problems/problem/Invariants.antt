-- three candidates of each input so far
use Rattle.std.proofs.Common.{◌≡◌, ◌*◌, length}
use Rattle.std.specs.Prelude.{All, sum_by}
use Rattle.ot_base.specs.Acceptable.{AreRows}
use Rattle.search_rows.proofs.problems.problem.Given as goal

abbrev pub invariant-loop-rows : goal.invariant-loop-rows
invariant-loop-rows g l = (length l.list ≡ l.rows-index) × All (AreRows g.row.N) l.list × (sum_by (λ input. length input.candidates) l.list ≡ 3 * l.rows-index)
