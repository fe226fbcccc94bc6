-- the constraints of the stratum among those so far are written
use Rattle.demotion.proofs.Stratum.{IsWrittenBelow}
use Rattle.demotion.proofs.order.put_stratum.Given as goal

abbrev pub invariant-loop-c : goal.invariant-loop-c
invariant-loop-c l = IsWrittenBelow l.s l.level l.initial.list l.placed l.c l.end l.list
