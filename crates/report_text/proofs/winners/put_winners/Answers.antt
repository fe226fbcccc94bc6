use Rattle.std.proofs.Common.{◌≡◌, [], None, ◌+◌, get_or, take, flat_map, arith, append_assoc, refl, ap, option_map, ◌∙◌}
use Rattle.std.specs.Prelude.{option_and_then}
use Rattle.std.specs.List.{enumerate_from}
use Rattle.std.proofs.lemmas.Option.{slice_get-get_or}
use Rattle.ot_theory.specs.Problems.{Input}
use Rattle.report_text.proofs.Grown.{numbered_more}
use Rattle.report_text.proofs.winners.put_winners.Invariants.{winner_line}
use Rattle.report_text.proofs.winners.put_winners.Goals as goal

abbrev none : Input
none = record { classes = []; members = []; winner = None }

pub loop-i-preserved : goal.loop-i-preserved
loop-i-preserved c =
    let inputs = c.args.problem.now.inputs in
    let i = c.loop-i.i in
    let input = get_or inputs i none in
    let won : option_map (λ a. a.0) c.winner.result ≡ input.winner =
    c.winner.ensures.value ∙ ap (option_and_then (λ input. input.winner)) (slice_get-get_or inputs i none (omega arith))
    in
    rw (numbered_more winner_line inputs i input none (omega arith) refl, c.in_ok-put_winner.ensures, won, c.loop-i.invariant)
    (append_assoc c.args.text.now (flat_map winner_line (enumerate_from 1 (take i inputs))) (winner_line (i + 1, input)))
