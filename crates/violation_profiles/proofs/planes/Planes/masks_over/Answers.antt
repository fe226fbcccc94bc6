use Rattle.std.proofs.Common.{ap, sym, ◌∙◌, Bool, cond}
use Rattle.violation_profiles.specs.declared.planes.Planes.{Planes}
use Rattle.violation_profiles.proofs.BitPlanes.{win-told, loss-told}
use Rattle.violation_profiles.proofs.planes.Planes.masks_over.Goals as goal

pub returns : goal.returns
returns c a b long is_a is_b =
    let small_a = ap (λ (p : Planes). p.large) (sym is_a) ∙ c.if-self-ne0.false in
    let small_b = ap (λ (p : Planes). p.large) (sym is_b) ∙ c.if-loser-ne0.false in (
      λ k. c.fewer.ensures a b is_a is_b k ∙ ap (λ (t : Bool). cond t 1 0) (win-told a b k long small_a small_b),
      λ k. c.fewer-2.ensures b a is_b is_a k ∙ ap (λ (t : Bool). cond t 1 0) (loss-told a b k long small_a small_b),
    )
