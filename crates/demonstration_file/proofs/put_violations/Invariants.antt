-- the violations of the first c constraints are written
use Rattle.std.proofs.Common.{◌≡◌, ◌++◌}
use Rattle.demonstration_file.proofs.Growing.{violations}
use Rattle.demonstration_file.proofs.put_violations.Given as goal

abbrev pub invariant-loop-c : goal.invariant-loop-c
invariant-loop-c l = l.text ≡ l.initial.text ++ violations l.group l.drawn l.c
