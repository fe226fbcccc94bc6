use Rattle.std.proofs.Common.{◌≡◌, ◌+◌, ◌*◌, ◌++◌, ◌≤◌, length, map, take, drop}
use Rattle.std.specs.List.{prefix_len}
use Rattle.tab_cells.specs.Cells.{cells_of, is_one_digit, digit_of}
use Rattle.tab_cells.proofs.pieces.cut_digits.Given as goal

abbrev pub invariant-loop-k : goal.invariant-loop-k
invariant-loop-k l = record {
  within : 2 * l.k ≤ length l.line;
  rest : drop l.k (cells_of l.line) ≡ cells_of (drop (2 * l.k) l.line);
  passes : prefix_len is_one_digit (cells_of l.line) ≡ l.k + prefix_len is_one_digit (cells_of (drop (2 * l.k) l.line));
  numbers : l.numbers ≡ map digit_of (take l.k (cells_of l.line)) ++ drop l.k l.fn.numbers;
}
