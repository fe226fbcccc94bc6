use Rattle.otsoft_run.proofs.Pairs.{covers-within}
use Rattle.otsoft_run.proofs.hasse.hasse_report.Goals as goal

pub hasse_text-requires-clause-within : goal.hasse_text-requires-clause-within
hasse_text-requires-clause-within c =
    rw (c.as_slice-4.ensures, c.in_ok-list.ensures, c.constraints-2.ensures.value) (covers-within c.args.posed.now.problem.constraints c.as_slice-3.result.now)
