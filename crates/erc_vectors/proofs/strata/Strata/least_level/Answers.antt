use Rattle.std.proofs.Common.{◌≡◌, ◌<◌, ◌≤◌, ℕ, List, length, slice_index, arith, sym, ap, ◌∙◌}
use Rattle.std.specs.Int.{bit_at, trailing_zeros, w64}
use Rattle.std.proofs.lemmas.Nat.Bits.{bit_at-lt}
use Rattle.std.proofs.lemmas.List.{get_or-take}
use Rattle.erc_vectors.specs.Padded.{length-take_padded}
use Rattle.erc_vectors.specs.declared.condition.TheConstants.{LIMIT}
use Rattle.erc_vectors.proofs.LeastLevel.{IsLowest, IsLowest-trailing_zeros, AreRead-more, bit_below}
use Rattle.erc_vectors.proofs.strata.Strata.least_level.Goals as goal

pub loop-left-preserved : goal.loop-left-preserved
loop-left-preserved c =
    let at : ℕ = trailing_zeros w64 c.loop-left.left in
    let low : IsLowest c.loop-left.left at = IsLowest-trailing_zeros c.loop-left.left c.loop-left-test.true (omega arith) in
    let inside : bit_at c.args.constraints at ≡ 1 = omega (arith, low.inside, c.loop-left.invariant.part at, bit_at-lt c.args.constraints at) in
    let width : length c.args.self.now ≡ c.self.inside.width = ap (λ (list : List ℕ). length list) (sym c.self.view_is) ∙ length-take_padded 0 LIMIT _ _ c.self.invariant.0 in
    let below : at < c.self.inside.width = omega (arith, width, bit_below c.args.constraints _ at c.requires inside) in
    let here : slice_index c.args.self.now at ≡ slice_index c.self.inside.levels at = ap (λ (list : List ℕ). slice_index list at) (sym c.self.view_is) ∙ get_or-take _ c.self.inside.levels at 0 below in
    let small : slice_index c.args.self.now at ≤ 255 = omega (arith, here, c.type_inv.self-inside) in
    rw (c.min-least.ensures, ← here) (AreRead-more _ _ _ _ at low small c.loop-left.invariant)
