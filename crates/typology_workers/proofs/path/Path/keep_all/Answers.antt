use Rattle.std.proofs.Common.{◌≡◌, ◌∙◌, arith, false, sym}
use Rattle.ot_theory.specs.Refutations.{no_ranking_keeps}
use Rattle.refutation.proofs.Asking.{asked-refuted}
use Rattle.typology_workers.specs.Paths.{prefix_of}
use Rattle.typology_workers.proofs.Remembering.{fronts-kept}
use Rattle.typology_workers.proofs.path.Path.keep_all.Goals as goal

pub returns : goal.returns
returns c =
    let old = c.requires.path in
    let path = c.args.self.now in
    let some : no_ranking_keeps c.args.p.now.constraints path.asked.conditions.items ≡ false =
    sym (asked-refuted c.args.p.now (prefix_of path) path.asked.terms.items path.asked.conditions.items c.inputs.ensures.well_formed c.requires.prefix old.asked) ∙ c.requires.holds in
    record {
      asked = old.asked;
      before = old.before;
      within = old.within;
      ordered = old.ordered;
      fronts = λ k below. fronts-kept c.args.p.now.constraints path.asked.conditions.items k some;
      reach = omega (arith, c.len.ensures, path.asked.terms.ok.0);
      made = old.made;
      remembered = old.remembered;
    }
