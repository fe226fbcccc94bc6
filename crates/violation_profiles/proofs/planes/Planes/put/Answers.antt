use Rattle.std.proofs.Common.{ap, arith, refl}
use Rattle.violation_profiles.specs.declared.planes.Planes.{Planes}
use Rattle.violation_profiles.specs.Planes.{has_bit, is_large}
use Rattle.violation_profiles.proofs.BitPlanes.{plane-put}
use Rattle.violation_profiles.proofs.planes.Planes.put.Goals as goal

pub returns : goal.returns
returns c front long is =
    let lanes = c.args.violations in
    let s = c.args.start in
    rw (
      plane-put (has_bit 0) front lanes s _ _ long (omega (arith, c.requires.lanes, c.requires.small)) (ap (λ (p : Planes). p.ones) is) c.with_bit.ensures,
      plane-put (has_bit 1) front lanes s _ _ long (omega (arith, c.requires.lanes, c.requires.small)) (ap (λ (p : Planes). p.twos) is) c.with_bit-2.ensures,
      plane-put (has_bit 2) front lanes s _ _ long (omega (arith, c.requires.lanes, c.requires.small)) (ap (λ (p : Planes). p.fours) is) c.with_bit-3.ensures,
      plane-put is_large front lanes s _ _ long (omega (arith, c.requires.lanes, c.requires.small)) (ap (λ (p : Planes). p.large) is) c.are_large.ensures,
    ) refl
