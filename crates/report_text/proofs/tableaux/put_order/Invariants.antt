-- the first k constraints are written
use Rattle.std.proofs.Common.{◌≡◌, ◌+◌, ◌++◌, take, decimal}
use Rattle.report_text.proofs.Grown.{fields}
use Rattle.report_text.proofs.tableaux.put_order.Given as goal

abbrev pub invariant-loop-k : goal.invariant-loop-k
invariant-loop-k l = l.text ≡ l.initial.text ++ fields (λ c. decimal (c + 1)) (take l.k l.order)
