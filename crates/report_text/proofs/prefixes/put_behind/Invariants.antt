-- the front stands in the kept text, and behind it the first of the other classes
use Rattle.std.proofs.Common.{◌≡◌, ◌++◌, take, drop}
use Rattle.report_text.proofs.Kept.{written}
use Rattle.report_text.proofs.prefixes.put_behind.Given as goal

abbrev pub invariant-loop-class : goal.invariant-loop-class
invariant-loop-class l = l.kept ≡ written (take l.front l.classes) ++ written (take l.class-index (drop l.front l.classes))
