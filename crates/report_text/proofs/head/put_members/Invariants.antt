-- the texts of the first members are written
use Rattle.std.proofs.Common.{◌≡◌, ◌++◌, take}
use Rattle.report_text.specs.Reports.{text_at}
use Rattle.report_text.proofs.Grown.{fields}
use Rattle.report_text.proofs.head.put_members.Given as goal

abbrev pub invariant-loop-k : goal.invariant-loop-k
invariant-loop-k l = l.text ≡ l.initial.text ++ fields (text_at l.rows) (take l.k-index l.members)
