use Rattle.std.proofs.Common.{◌≡◌, ◌*◌, ◌-◌, ◌%◌, ◌∙◌, ◌++◌, arith, ap, length, take, ℕ}
use Rattle.std.proofs.lemmas.List.{length-take-le}
use Rattle.violation_profiles.specs.Planes.{planes_of}
use Rattle.violation_profiles.proofs.BitPlanes.{planes_of-padded, lanes-next, whole-padded}
use Rattle.violation_profiles.proofs.planes.Planes.of.Goals as goal

pub loop-k-preserved : goal.loop-k-preserved
loop-k-preserved c =
    let profile = c.args.profile.now in
    let start = 16 * c.loop-k.k in
    c.put.ensures (take start profile) (length-take-le start profile (omega arith)) c.loop-k.invariant
    ∙ ap planes_of (lanes-next profile c.loop-k.k)

pub returns-then-start-profile : goal.returns-then-start-profile
returns-then-start-profile c =
    let profile = c.args.profile.now in
    let start : ℕ = length profile - length profile % 16 in
    let same : 16 * c.loop-k.k ≡ start = omega arith in
    c.put-then-start-profile.ensures (take start profile) (length-take-le start profile (omega arith)) (rw same at c.loop-k.invariant)
    ∙ ap (λ lanes. planes_of (take start profile ++ lanes)) c.padded.ensures
    ∙ ap planes_of (whole-padded profile start _)
    ∙ planes_of-padded profile _
