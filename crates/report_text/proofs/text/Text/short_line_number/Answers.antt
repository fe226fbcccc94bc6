use Rattle.std.proofs.Common.{◌≤◌, ◌+◌, ◌-◌, ℕ, List, drop, set, length, decimal, rules, arith, refl}
use Rattle.std.proofs.lemmas.Fmt.{length-decimal-le}
use Rattle.std.proofs.lemmas.List.{length-take, length-drop, length-set}
use Rattle.std.proofs.lemmas.Result.{on_ok_weaker}
use Rattle.report_text.proofs.Led.{line-number}
use Rattle.report_text.proofs.text.Text.short_line_number.Goals as goal

pub write_digits-start-requires : goal.write_digits-start-requires
write_digits-start-requires c = search (rules, length-decimal-le 20)

pub overflow_sub-first : goal.overflow_sub-first
overflow_sub-first c = omega (arith, c.write_digits-start.ensures.start, length-decimal-le 20 c.args.n (omega arith) (omega arith) (omega arith))

pub overflow_sub-first-2 : goal.overflow_sub-first-2
overflow_sub-first-2 c = omega (arith, c.requires, c.write_digits-start.ensures.start, length-decimal-le 20 c.args.n (omega arith) (omega arith) (omega arith))

pub overflow_sub-start : goal.overflow_sub-start
overflow_sub-start c = omega (arith, c.write_digits-start.ensures.start, length-decimal-le 20 c.args.n (omega arith) (omega arith) (omega arith))

pub overflow_sub-bytes : goal.overflow_sub-bytes
overflow_sub-bytes c = omega (arith, c.write_digits-start.ensures.start, length-decimal-le 20 c.args.n (omega arith) (omega arith) (omega arith))

pub copy_from_slice-requires : goal.copy_from_slice-requires
copy_from_slice-requires c =
    let start = c.write_digits-start.result in
    let first = start - 1 - length c.args.word.now in
    let tabbed : List ℕ = set c.write_digits-start.new.buf (start - 1) 9 in
    omega (
      arith,
      length-take (start - 1 - first) (drop first tabbed),
      length-drop first tabbed,
      length-set c.write_digits-start.new.buf (start - 1) 9,
      c.write_digits-start.auto.buf,
      c.requires,
      c.write_digits-start.ensures.start,
      length-decimal-le 20 c.args.n (omega arith) (omega arith) (omega arith),
    )

pub returns : goal.returns
returns c =
    let some : 1 + length c.args.word.now ≤ c.write_digits-start.result = omega (arith, c.requires, c.write_digits-start.ensures.start, length-decimal-le 20 c.args.n (omega arith) (omega arith) (omega arith)) in
    on_ok_weaker c.put_front.result
    (λ e. line-number c.args.self.now c.put_front.new.self c.write_digits-start.new.buf c.args.word.now c.copy_from_slice.new.self (decimal c.args.n) _ c.write_digits-start.result _ c.copy_from_slice.ensures.after c.write_digits-start.ensures.start some refl c.write_digits-start.ensures.written e)
    c.put_front.ensures
