use Rattle.std.proofs.Common.{◌+◌, ◌∙◌, ℕ, List, ◌∷◌, ◌++◌, decimal, arith, ap}
use Rattle.std.proofs.lemmas.Fmt.{length-decimal-le}
use Rattle.std.proofs.lemmas.Result.{on_ok_weaker}
use Rattle.report_text.proofs.Led.{three-numbers}
use Rattle.report_text.proofs.terms.put_loser.Goals as goal

pub write_behind-loser-requires-clause-room : goal.write_behind-loser-requires-clause-room
write_behind-loser-requires-clause-room c = omega (arith, length-decimal-le 5 (c.args.loser.0 + 1) (omega arith) (omega arith) (omega arith))

pub write_behind-winner-requires-clause-room : goal.write_behind-winner-requires-clause-room
write_behind-winner-requires-clause-room c =
    omega (
      arith,
      c.write_behind-loser.ensures.start,
      length-decimal-le 5 (c.args.loser.0 + 1) (omega arith) (omega arith) (omega arith),
      length-decimal-le 5 (c.args.winner.0 + 1) (omega arith) (omega arith) (omega arith),
    )

pub write_digits-start-requires : goal.write_digits-start-requires
write_digits-start-requires c = (
  omega (
    arith,
    c.write_behind-loser.ensures.start,
    c.write_behind-winner.ensures.start,
    length-decimal-le 5 (c.args.loser.0 + 1) (omega arith) (omega arith) (omega arith),
    length-decimal-le 5 (c.args.winner.0 + 1) (omega arith) (omega arith) (omega arith),
    length-decimal-le 10 (c.args.input.0 + 1) (omega arith) (omega arith) (omega arith),
  ),
  omega (arith, c.write_behind-winner.auto.bytes, c.write_behind-loser.auto.bytes, c.write_behind-winner.ensures.start, c.write_behind-loser.ensures.start),
)

pub returns : goal.returns
returns c =
    let input : List ℕ = decimal (c.args.input.0 + 1) in
    let winner : List ℕ = decimal (c.args.winner.0 + 1) in
    let whole = c.write_digits-start.ensures.written ∙ ap (λ (l : List ℕ). input ++ l) (c.write_behind-winner.ensures.written ∙ ap (λ (l : List ℕ). (58 ∷ winner) ++ l) c.write_behind-loser.ensures.written) in
    on_ok_weaker c.put_front.result
    (three-numbers c.args.text.now c.put_front.new.self c.write_digits-start.new.buf input winner (decimal (c.args.loser.0 + 1)) _ c.write_digits-start.result (omega (arith, c.write_digits-start.ensures.start, c.write_behind-winner.ensures.start, c.write_behind-loser.ensures.start)) whole)
    c.put_front.ensures
