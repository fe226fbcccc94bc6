use Rattle.std.proofs.Common.{arith}
use Rattle.search_schedule.proofs.Counting.{at-other, at-steal}
use Rattle.search_schedule.proofs.choosing.step_at.Goals as goal

pub returns-then-place-workers : goal.returns-then-place-workers
returns-then-place-workers c = at-steal c.args.workers c.args.w _ c.args.place (omega arith) (omega arith)

pub returns-in-0 : goal.returns-in-0
returns-in-0 c = at-other c.args.workers c.args.w 0 c.args.place (omega arith)

pub returns-in-1 : goal.returns-in-1
returns-in-1 c = at-other c.args.workers c.args.w 1 c.args.place (omega arith)

pub returns-in-2 : goal.returns-in-2
returns-in-2 c = at-other c.args.workers c.args.w 2 c.args.place (omega arith)

pub returns-in_default : goal.returns-in_default
returns-in_default c = at-other c.args.workers c.args.w 3 c.args.place (omega arith)
