use Rattle.std.proofs.Common.{◌+◌, ◌∙◌, ap, arith}
use Rattle.typology_core.specs.declared.learning.Tally.{Tally}
use Rattle.typology_core.proofs.Counted.{tallies-here, tallies-past}
use Rattle.typology_core.proofs.learning.tallies.Goals as goal
use Rattle.typology_core.proofs.learning.tallies.Goals.{then-certificate-longest, else-certificate-longest}

pub loop-certificate-preserved : goal.loop-certificate-preserved
loop-certificate-preserved c =
    let k = c.loop-certificate.certificate-index in
    let named = c.args.named.now in
    elim c.if-certificate-longest.branch [
      | then-certificate-longest w ↦
          rw w.tallies-is (tallies-here c.args.longest k named (record { length = 0; cuts = 0 }) w.index.result.now w.with.result c.loop-certificate.tallies.items c.loop-certificate-test.true (omega (arith, w.if-certificate-longest.true))
          (w.with.ensures.certificates ∙ ap (λ (t : Tally). t.certificates + 1) w.index.ensures) (w.with.ensures.cuts ∙ ap (λ (t : Tally). t.cuts + _) w.index.ensures) (omega (arith, w.with.ensures.few, ap (λ (t : Tally). t.cuts) w.index.ensures)) c.loop-certificate.invariant)
      | else-certificate-longest w ↦
          rw w.tallies-is (tallies-past c.args.longest k named (record { length = 0; cuts = 0 }) c.loop-certificate.tallies.items c.loop-certificate-test.true (omega (arith, w.if-certificate-longest.false)) c.loop-certificate.invariant)
    ]
