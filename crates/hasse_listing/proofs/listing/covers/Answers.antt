use Rattle.std.proofs.Common.{◌≡◌, ℕ, ◌<◌, ◌++◌, arith, ◌∙◌, slice_index, length-set}
use Rattle.std.proofs.lemmas.Grind.{common_steps}
use Rattle.std.proofs.lemmas.List.{length-replicate}
use Rattle.demotion.specs.Placed.{has_bit}
use Rattle.hasse_listing.specs.Masks.{AreBelow, is_covered, pairs_in}
use Rattle.hasse_listing.proofs.Listed.{masks-more, pairs_in-covers, covers-more}
use Rattle.hasse_listing.proofs.listing.covers.Goals as goal

pub loop-c-init : goal.loop-c-init
loop-c-init c = record { wide = length-replicate {A = ℕ} 64 0; each = λ x h. absurd (omega arith) }

pub loop-c-preserved : goal.loop-c-preserved
loop-c-preserved c = record {
  wide = length-set c.loop-c.below c.loop-c.c c.necessarily_below.result ∙ c.loop-c.invariant.wide;
  each = masks-more (AreBelow c.args.n c.args.set.now) c.loop-c.below c.loop-c.c c.necessarily_below.result (omega (arith, c.loop-c.invariant.wide)) c.loop-c.invariant.each c.necessarily_below.ensures;
}

pub loop-c-2-init : goal.loop-c-2-init
loop-c-2-init c = record { wide = length-replicate {A = ℕ} 64 0; each = λ x h. absurd (omega arith) }

pub loop-c-2-preserved : goal.loop-c-2-preserved
loop-c-2-preserved c = record {
  wide = length-set c.loop-c-2.covered c.loop-c-2.c c.covered_by.result ∙ c.loop-c-2.invariant.wide;
  each = masks-more (λ x mask. (d : ℕ) → d < c.args.n → has_bit mask d ≡ is_covered c.args.n c.loop-c.below x d) c.loop-c-2.covered c.loop-c-2.c c.covered_by.result (omega (arith, c.loop-c-2.invariant.wide)) c.loop-c-2.invariant.each c.covered_by.ensures;
}

pub loop-c-3-preserved : goal.loop-c-3-preserved
loop-c-3-preserved c =
    let mask : ℕ = slice_index c.loop-c-2.covered c.loop-c-3.c in
    let row = pairs_in-covers c.args.n c.args.set.now c.loop-c.below c.loop-c-3.c mask (omega arith) (λ x small. c.loop-c.invariant.each x (omega (arith, small))) (c.loop-c-2.invariant.each c.loop-c-3.c (omega arith)) in
    let written : c.put_pairs.new.list ≡ c.loop-c-3.list ++ pairs_in c.args.n c.loop-c-3.c mask = grind (arith, common_steps) in
    covers-more c.args.n c.args.set.now c.loop-c-3.c c.loop-c-3.list c.put_pairs.new.list _ c.loop-c-3.invariant row written
