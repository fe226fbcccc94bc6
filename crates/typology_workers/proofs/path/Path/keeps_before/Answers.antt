use Rattle.std.proofs.Common.{◌≡◌, ◌∙◌, arith, false, sym, take}
use Rattle.ot_theory.specs.Refutations.{no_ranking_keeps}
use Rattle.typology_workers.proofs.Remembering.{fronts-up-to}
use Rattle.typology_workers.proofs.path.Path.keeps_before.Goals as goal

pub returns-clause-path : goal.returns-clause-path
returns-clause-path c =
    let old = c.requires.path in
    let some : no_ranking_keeps c.args.p.now.constraints (take c.args.place c.args.self.now.asked.conditions.items) ≡ false = rw (c.constraints.ensures.value, c.deref.ensures.value) at (sym c.is_hopeless.ensures ∙ c.if-is_hopeless.false) in
    record {
      asked = old.asked;
      before = old.before;
      within = old.within;
      ordered = old.ordered;
      fronts = λ k below. fronts-up-to c.args.p.now.constraints c.args.self.now.asked.conditions.items c.args.place k below some;
      reach = omega (arith, c.requires.within);
      made = old.made;
      remembered = old.remembered;
    }
