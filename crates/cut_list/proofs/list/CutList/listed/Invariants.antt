-- the first k cuts are listed, and the prefix is that of the last of them
use Rattle.std.proofs.Common.{◌≡◌, take}
use Rattle.refutation.specs.Prefixes.{class_numbers}
use Rattle.cut_list.specs.Changed.{prefix_before}
use Rattle.cut_list.proofs.list.CutList.listed.Given as goal

abbrev pub invariant-loop-k : goal.invariant-loop-k
invariant-loop-k l = (l.cuts ≡ take l.k l.self) × (class_numbers l.prefix.items ≡ prefix_before l.self l.k)
