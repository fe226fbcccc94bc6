use Rattle.std.proofs.Common.{◌≡◌, ◌∙◌, ℕ, Bool, true, false, sym, arith}
use Rattle.demotion.specs.Placed.{has_bit}
use Rattle.biased_demotion.specs.Shown.{freed_in}
use Rattle.biased_demotion.proofs.Greatest.{IsGreatestSoFar-none, IsGreatestSoFar-kept, IsGreatestSoFar-more, found_greatest, found_none}
use Rattle.biased_demotion.proofs.next.most_freeing.Goals as goal
use Rattle.biased_demotion.proofs.next.most_freeing.Goals.{then-has_bit+then-freed-most, then-has_bit+else-freed-most, else-has_bit}

pub loop-c-init : goal.loop-c-init
loop-c-init c = IsGreatestSoFar-none (has_bit c.args.candidates) (freed_in c.args.markedness c.args.placed c.args.set.now)

pub loop-c-preserved : goal.loop-c-preserved
loop-c-preserved c =
    let test : ℕ → Bool = has_bit c.args.candidates in
    let number : ℕ → ℕ = freed_in c.args.markedness c.args.placed c.args.set.now in
    let k = c.loop-c.c in
    elim c.if-has_bit.branch [
      | then-has_bit+then-freed-most w ↦
          rw (w.best-is, w.most-is, w.freed_by-freed.ensures)
          (IsGreatestSoFar-more k test number c.loop-c.best c.loop-c.most (sym c.has_bit.ensures ∙ w.if-has_bit.true) (omega (arith, w.if-freed-most.true, w.freed_by-freed.ensures)) c.loop-c.invariant)
      | then-has_bit+else-freed-most w ↦
          rw (w.best-is, w.most-is)
          (IsGreatestSoFar-kept k test number c.loop-c.best c.loop-c.most (λ passes. omega (arith, w.if-freed-most.false, w.freed_by-freed.ensures)) c.loop-c.invariant)
      | else-has_bit w ↦
          rw (w.best-is, w.most-is)
          (IsGreatestSoFar-kept k test number c.loop-c.best c.loop-c.most (λ passes. let no : true ≡ false = sym passes ∙ sym c.has_bit.ensures ∙ w.if-has_bit.false in absurd (cc)) c.loop-c.invariant)
    ]

pub returns-clause-some : goal.returns-clause-some
returns-clause-some c =
    let all : c.loop-c.c ≡ 64 = omega (arith, c.loop-c-test.false) in
    rw all at (found_greatest c.loop-c.c (has_bit c.args.candidates) (freed_in c.args.markedness c.args.placed c.args.set.now) c.loop-c.best c.loop-c.most c.loop-c.invariant)

pub returns-clause-none : goal.returns-clause-none
returns-clause-none c =
    let all : c.loop-c.c ≡ 64 = omega (arith, c.loop-c-test.false) in
    rw all at (found_none c.loop-c.c (has_bit c.args.candidates) (freed_in c.args.markedness c.args.placed c.args.set.now) c.loop-c.best c.loop-c.most c.loop-c.invariant)
