use Rattle.std.proofs.Common.{◌<◌, ◌+◌, ◌-◌, ℕ, List, drop, set, decimal, rules, arith}
use Rattle.std.proofs.lemmas.Fmt.{length-decimal-le}
use Rattle.std.proofs.lemmas.List.{length-take, length-drop, length-set}
use Rattle.std.proofs.lemmas.Result.{on_ok_weaker}
use Rattle.report_text.proofs.Led.{number-between}
use Rattle.report_text.proofs.text.Text.number_between.Goals as goal

pub write_digits-start-requires : goal.write_digits-start-requires
write_digits-start-requires c = search (rules, length-decimal-le 20)

pub overflow_sub-bytes : goal.overflow_sub-bytes
overflow_sub-bytes c = omega (arith, c.write_digits-start.ensures.start, length-decimal-le 20 c.args.n (omega arith) (omega arith) (omega arith))

pub overflow_sub-start : goal.overflow_sub-start
overflow_sub-start c = omega (arith, c.write_digits-start.ensures.start, length-decimal-le 20 c.args.n (omega arith) (omega arith) (omega arith))

pub put_front-requires : goal.put_front-requires
put_front-requires c =
    let start = c.write_digits-start.result in
    let placed : List ℕ = set c.write_digits-start.new.buf (start - 1) c.args.before in
    omega (
      arith,
      length-take (start + 23 - (start - 1)) (drop (start - 1) placed),
      length-drop (start - 1) placed,
      length-set c.write_digits-start.new.buf (start - 1) c.args.before,
      c.write_digits-start.auto.buf,
      c.write_digits-start.ensures.start,
      length-decimal-le 20 c.args.n (omega arith) (omega arith) (omega arith),
    )

pub returns : goal.returns
returns c =
    let some : 0 < c.write_digits-start.result = omega (arith, c.write_digits-start.ensures.start, length-decimal-le 20 c.args.n (omega arith) (omega arith) (omega arith)) in
    on_ok_weaker c.put_front.result (number-between c.args.self.now c.put_front.new.self c.write_digits-start.new.buf (decimal c.args.n) _ c.write_digits-start.result c.args.before c.args.after c.write_digits-start.ensures.start some c.write_digits-start.ensures.written) c.put_front.ensures
