use Rattle.std.proofs.Common.{◌≡◌, ◌==◌, Bool, true, false, refl, ap, ◌∙◌, sym, arith, get_or}
use Rattle.std.specs.Prelude.{not}
use Rattle.std.proofs.lemmas.Bool.{eqb-true}
use Rattle.ot_base.specs.declared.tableau.ClassId.{ClassId}
use Rattle.typology_workers.specs.declared.path.Step.{Step}
use Rattle.typology_workers.proofs.Going.{front-more}
use Rattle.typology_workers.proofs.path.Path.shared.Goals as goal

alike : (b different : Bool) → different ≡ not b → different ≡ false → b ≡ true
alike true different e f = refl
alike false different e f = absurd (cc)

pub loop-k-preserved : goal.loop-k-preserved
loop-k-preserved c =
    let class : ClassId = record { 0 = 0 } in
    let step : Step = c.index.result.now in
    let same = eqb-true step.class.0 (get_or c.args.prefix.now c.loop-k.k class).0 (alike (step.class.0 == (get_or c.args.prefix.now c.loop-k.k class).0) c.ne.result c.ne.ensures c.if-ne.false) in
    let m = c.min-limit.ensures in
    let n = c.len.ensures in
    let t = c.loop-k-test.true in
    front-more c.args.self.now.steps.items c.args.prefix.now c.loop-k.k step class (omega arith) (omega arith) (ap (λ (s : Step). s.class.0) (sym c.index.ensures) ∙ same) c.loop-k.invariant
