use Rattle.std.proofs.Common.{◌<◌, ◌≤◌, ◌+◌, ◌-◌, ◌/◌, ◌%◌, ◌^◌, ℕ, arith, w64}
use Rattle.std.specs.Int.{trailing_zeros}
use Rattle.std.proofs.Math.Nat.{div-le_self}
use Rattle.std.proofs.lemmas.Nat.Bits.{bit_at-zero}
use Rattle.refutation.specs.Prefixes.{class_numbers}
use Rattle.search_deeds.proofs.Admitting.{ArePassed-more, ArePassed-none, lowest-near, unset-below}
use Rattle.search_deeds.proofs.blocks.next_admitted.Goals as goal

pub loop-k-init : goal.loop-k-init
loop-k-init c = ArePassed-none c.args.blocks.now (class_numbers c.args.prefix.now) c.args.from

pub returns-then-left-ne0-clause-onward : goal.returns-then-left-ne0-clause-onward
returns-then-left-ne0-clause-onward c = omega (arith, c.loop-k.invariant.onward, c.loop-k-test.true, c.min.ensures)

pub returns-then-left-ne0-clause-passed : goal.returns-then-left-ne0-clause-passed
returns-then-left-ne0-clause-passed c =
    let k = c.loop-k.k in
    let word = c.admitted.result in
    let s : ℕ = k % 64 in
    let some : 0 < word / 2 ^ s = omega (arith, c.if-left-ne0.true) in
    let fits : word / 2 ^ s < 2 ^ 64 = omega (arith, div-le_self word (2 ^ s)) in
    let tz : ℕ = trailing_zeros w64 (word / 2 ^ s) in
    let near : s + tz < 64 = lowest-near word s (omega arith) (omega arith) some fits in
    let to : c.min.result ≤ k + tz = omega (arith, c.min.ensures) in
    let least : k ≤ c.min.result = omega (arith, c.min.ensures, c.loop-k-test.true) in
    (ArePassed-more c.args.blocks.now (class_numbers c.args.prefix.now) c.args.from k c.min.result c.index-blocks-k.result word c.index-blocks-k.is c.admitted.ensures least (omega (arith, near, to))
    (λ i below. unset-below word s i some fits (omega (arith, below, to))) c.loop-k.invariant).none

pub loop-k-preserved : goal.loop-k-preserved
loop-k-preserved c =
    let k = c.loop-k.k in
    let word = c.admitted.result in
    ArePassed-more c.args.blocks.now (class_numbers c.args.prefix.now) c.args.from k (k + (64 - k % 64)) c.index-blocks-k.result word c.index-blocks-k.is c.admitted.ensures (omega arith) (omega arith)
    (λ i below. rw c.if-left-ne0.false (bit_at-zero i)) c.loop-k.invariant

pub returns-clause-passed : goal.returns-clause-passed
returns-clause-passed c = λ j low high h. c.loop-k.invariant.none j low (omega (arith, high, c.loop-k-test.false)) h
