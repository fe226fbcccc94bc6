use Rattle.std.proofs.Common.{◌≡◌, ◌+◌, ◌*◌, ◌%◌, ◌<◌, length, get_or, arith, sym}
use Rattle.std.proofs.Math.Nat.{mod-eq_of_lt}
use Rattle.std.proofs.lemmas.List.{length-set}
use Rattle.report_text.proofs.Led.{behind-digit, take-two}
use Rattle.report_text.proofs.numbers.digits_behind.Goals as goal

pub loop-k-preserved : goal.loop-k-preserved
loop-k-preserved c =
    let k = c.loop-k.k in
    let few = c.args.few.now in
    let within : k < length few = omega arith in
    let room : 2 * k + 1 < length c.loop-k.bytes = omega (arith, c.loop-k.invariant.0) in (
      rw (length-set, length-set) c.loop-k.invariant.0,
      λ small.
          let before : c.loop-k.greatest < 10 = omega (arith, small, c.max-greatest.ensures) in
          let digit : get_or few k 0 < 10 = omega (arith, small, c.max-greatest.ensures) in
          let same : get_or few k 0 % 16 ≡ get_or few k 0 = mod-eq_of_lt (omega (arith, digit)) in
          rw (take-two c.loop-k.bytes k c.args.byte _ room, c.loop-k.invariant.1 before, same) (sym (behind-digit c.args.byte few k within digit)),
    )
