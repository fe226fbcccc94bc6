use Rattle.std.proofs.Common.{ℕ, ◌+◌, ◌++◌, ◌∙◌, ap, arith, min, refl, take}
use Rattle.typology_core.specs.Judged.{learns_of}
use Rattle.typology_core.proofs.Counted.{count-here, count-other, count-placed, count-spent}
use Rattle.typology_core.proofs.learning.Count.with_length.Goals as goal
use Rattle.typology_core.proofs.learning.Count.with_length.Goals.{then-certificate-length, else-certificate-length}

pub loop-certificate-preserved : goal.loop-certificate-preserved
loop-certificate-preserved c = λ held places before h. elim c.if-certificate-length.branch [
  | then-certificate-length w ↦
      count-here held places c.args.length before c.args.named.now c.loop-certificate.certificate-index (record { length = 0; cuts = 0 }) c.if-certificate-length.count c.loop-certificate-test.true w.if-certificate-length.true
      (rw w.count-is (w.with-count.ensures held places (before ++ learns_of c.args.length (take c.loop-certificate.certificate-index c.args.named.now)) (c.loop-certificate.invariant held places before h)))
  | else-certificate-length w ↦
      count-other held places c.args.length before c.args.named.now c.loop-certificate.certificate-index (record { length = 0; cuts = 0 }) c.if-certificate-length.count c.loop-certificate-test.true w.if-certificate-length.false
      (rw w.count-is (c.loop-certificate.invariant held places before h))
]

pub returns-then-self-eq0 : goal.returns-then-self-eq0
returns-then-self-eq0 c = λ held places before h. count-spent held places before c.args.length c.args.named.now c.args.tally c.args.self _ c.if-self-eq0.true refl
    (c.saturating_add.ensures ∙ ap (λ (n : ℕ). min (c.args.self.learns + n) 18446744073709551615) c.min.ensures) c.requires h

pub returns-then-tally-self : goal.returns-then-tally-self
returns-then-tally-self c = λ held places before h. count-placed held places before c.args.length c.args.named.now c.args.tally c.args.self _ c.if-self-eq0.false (omega (arith, c.if-tally-self.true)) refl c.saturating_add-then-tally-self.ensures c.requires h
