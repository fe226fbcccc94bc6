-- the lines of the first k cuts are written, and the classes of the last of them are kept
use Rattle.std.proofs.Common.{◌≡◌, ◌++◌}
use Rattle.cut_list.specs.Changed.{prefix_before}
use Rattle.refutation.specs.Prefixes.{class_numbers}
use Rattle.report_text.specs.Spelling.{each_behind_space}
use Rattle.report_text.proofs.CutLines.{first_lines}
use Rattle.report_text.proofs.typology.put_cut_list.Given as goal

abbrev pub invariant-loop-k : goal.invariant-loop-k
invariant-loop-k l = record {
  written : l.text ≡ l.initial.text ++ first_lines l.cuts l.k;
  kept : l.kept ≡ each_behind_space (class_numbers l.prefix.items);
  last : class_numbers l.prefix.items ≡ prefix_before l.cuts l.k;
}
