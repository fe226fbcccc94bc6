-- the violations at the first k places do not differ
use Rattle.std.proofs.Common.{◌≡◌, ◌++◌, take, drop}
use Rattle.report_text.specs.Spelling.{behind, marked}
use Rattle.report_text.proofs.tableaux.fatal.Given as goal

abbrev pub invariant-loop-k : goal.invariant-loop-k
invariant-loop-k l = marked l.violations l.winning ≡ behind 9 (take l.k l.violations) ++ marked (drop l.k l.violations) (drop l.k l.winning)
