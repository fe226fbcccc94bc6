-- A line has at most one cell more than bytes.
use Rattle.std.proofs.Common.{ℕ, ◌+◌, ◌≤◌, ◌==◌, List, length, arith}
use Rattle.std.proofs.lemmas.List.Splits.{length-slice_split}
use Rattle.std.proofs.lemmas.List.Sums.{count_by-le-length}
use Rattle.tab_cells.specs.Cells.{cells_of}

pub length-cells_of-le : (line : List ℕ) → length (cells_of line) ≤ length line + 1
length-cells_of-le line = omega (arith, length-slice_split (λ c. c == 9) line, count_by-le-length (λ c. c == 9) line)
