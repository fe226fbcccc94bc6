use Rattle.std.proofs.Common.{ℕ, Bool, arith, ap, slice_index}
use Rattle.std.specs.Prelude.{nat_lt}
use Rattle.std.proofs.lemmas.Bool.{lt-ltb, le-ltb}
use Rattle.std.proofs.lemmas.List.{get_or_past}
use Rattle.biased_demotion.proofs.Shown.{IsShownBelow-none, IsShownBelow-in, IsShownBelow-out, IsShownBelow-whole}
use Rattle.biased_demotion.proofs.kinds.placed_in.Goals as goal
use Rattle.biased_demotion.proofs.kinds.placed_in.Goals.{then-levels-c-gt0, else-levels-c-gt0}

pub loop-c-init : goal.loop-c-init
loop-c-init c = IsShownBelow-none (λ d. nat_lt 0 (slice_index c.args.levels.now d))

pub loop-c-preserved : goal.loop-c-preserved
loop-c-preserved c =
    let test : ℕ → Bool = λ d. nat_lt 0 (slice_index c.args.levels.now d) in
    elim c.if-levels-c-gt0.branch [
      | then-levels-c-gt0 w ↦ rw (w.placed-is, w.bit_of-placed.ensures) (IsShownBelow-in c.loop-c.placed test c.loop-c.c (lt-ltb _ _ w.if-levels-c-gt0.true) c.loop-c.invariant)
      | else-levels-c-gt0 w ↦ rw w.placed-is (IsShownBelow-out c.loop-c.placed test c.loop-c.c (le-ltb _ _ w.if-levels-c-gt0.false) c.loop-c.invariant)
    ]

pub returns : goal.returns
returns c = IsShownBelow-whole c.loop-c.placed (λ d. nat_lt 0 (slice_index c.args.levels.now d)) c.loop-c.c (λ k past. ap (nat_lt 0) (get_or_past c.args.levels.now k 0 (omega (arith, c.loop-c-test.false)))) c.loop-c.invariant
