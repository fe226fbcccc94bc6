use Rattle.std.proofs.Common.{[], map, rules, append_assoc}
use Rattle.std.specs.Prelude.{slice_index_or}
use Rattle.std.proofs.lemmas.Result.{IfOk-equal}
use Rattle.ot_theory.specs.Hierarchies.{in_stratum}
use Rattle.report_text.specs.Spelling.{spaced, stratum}
use Rattle.report_text.proofs.Spaced.{join-cons}
use Rattle.report_text.proofs.hierarchy.put_stratum_line.Goals as goal

pub returns : goal.returns
returns c =
    let levels = c.args.strata.now in
    rw (join-cons 9 (spaced (stratum levels c.args.level)) (map (λ d. slice_index_or c.args.abbreviations.now d []) (in_stratum levels c.args.level)))
    (search (rules, IfOk-equal, append_assoc))
