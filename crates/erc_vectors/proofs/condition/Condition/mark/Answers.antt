use Rattle.std.proofs.Common.{◌≡◌, arith, true, false, refl, sym, ◌∙◌}
use Rattle.std.specs.Prelude.{◌==◌}
use Rattle.std.specs.Int.{bit_at}
use Rattle.erc_vectors.proofs.Bits.{mark-seen, width-seen}
use Rattle.erc_vectors.proofs.condition.Condition.mark.Goals as goal

pub has_bit-requires : goal.has_bit-requires
has_bit-requires c = omega (arith, width-seen _ _ _ _ c.self.view_is, c.self.invariant.fits, c.requires)

pub has_bit-requires-else-has_bit : goal.has_bit-requires-else-has_bit
has_bit-requires-else-has_bit c = omega (arith, width-seen _ _ _ _ c.self.view_is, c.self.invariant.fits, c.requires)

pub returns-then-has_bit : goal.returns-then-has_bit
returns-then-has_bit c =
    let win : (bit_at c.self.inside.wins c.args.c.0 == 1) ≡ true = sym c.has_bit.ensures ∙ c.if-has_bit.true in
    rw (mark-seen _ _ _ _ _ c.self.view_is c.requires, win) refl

pub returns-then-has_bit-2 : goal.returns-then-has_bit-2
returns-then-has_bit-2 c =
    let win : (bit_at c.self.inside.wins c.args.c.0 == 1) ≡ false = sym c.has_bit.ensures ∙ c.if-has_bit.false in
    let loss : (bit_at c.self.inside.losses c.args.c.0 == 1) ≡ true = sym c.has_bit-else-has_bit.ensures ∙ c.if-has_bit-2.true in
    rw (mark-seen _ _ _ _ _ c.self.view_is c.requires, win, loss) refl

pub returns-else-has_bit-2 : goal.returns-else-has_bit-2
returns-else-has_bit-2 c =
    let win : (bit_at c.self.inside.wins c.args.c.0 == 1) ≡ false = sym c.has_bit.ensures ∙ c.if-has_bit.false in
    let loss : (bit_at c.self.inside.losses c.args.c.0 == 1) ≡ false = sym c.has_bit-else-has_bit.ensures ∙ c.if-has_bit-2.false in
    rw (mark-seen _ _ _ _ _ c.self.view_is c.requires, win, loss) refl
