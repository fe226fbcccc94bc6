use Rattle.std.proofs.Common.{ap}
use Rattle.std.proofs.lemmas.Result.{err_from_is_err_and}
use Rattle.otsoft_run.specs.Answers.{posed_under}
use Rattle.otsoft_run.proofs.Judged.{given_as, under_pairs}
use Rattle.otsoft_run.proofs.judging.judge_given.Goals as goal

pub returns-in_err-pairs-clause-refused : goal.returns-in_err-pairs-clause-refused
returns-in_err-pairs-clause-refused c = λ refusal e name bytes t.
    let told = err_from_is_err_and c.from_residual.result c.from_residual.ensures.1 in
    ap (posed_under c.args.posed.tableau name) (given_as c.args.posed.tableau bytes _ _ t (c.in_err-pairs.ensures.refused refusal (cc (told.1, told.2))))

pub returns-clause-accepted : goal.returns-clause-accepted
returns-clause-accepted c = λ name bytes t.
    under_pairs c.args.posed c.with_given.result name bytes c.in_ok-pairs.pairs c.requires.alone
    (given_as c.args.posed.tableau bytes _ _ t c.in_ok-pairs.ensures.read)
    c.with_given.ensures
