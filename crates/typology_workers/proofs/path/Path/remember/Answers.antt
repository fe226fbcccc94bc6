use Rattle.std.proofs.Common.{◌∙◌, arith, sym}
use Rattle.std.proofs.lemmas.List.{length-map, take-map}
use Rattle.ot_base.specs.declared.tableau.ClassId.{ClassId}
use Rattle.refutation.specs.Prefixes.{class_numbers}
use Rattle.typology_workers.specs.Paths.{IsLastNeeded}
use Rattle.typology_workers.proofs.Remembering.{remembered}
use Rattle.typology_workers.proofs.path.Path.remember.Goals as goal

pub returns-in_ok-copy : goal.returns-in_ok-copy
returns-in_ok-copy c =
    let path = c.args.self.now in
    let prefix = class_numbers c.args.prefix.now in
    let front = c.classes_needed-front.result in
    let needed : IsLastNeeded c.args.p.now path front c.in-Some.last = rw c.in-Some.is at c.in_ok-last.ensures in
    let old = c.requires.path in
    record {
      asked = old.asked;
      before = old.before;
      within = old.within;
      ordered = old.ordered;
      fronts = old.fronts;
      reach = old.reach;
      made = old.made;
      remembered = c.put.ensures c.args.p.now old.remembered
          (remembered c.args.p.now path prefix _ front c.in-Some.last _ c.inputs.ensures.well_formed c.requires.prefix old c.requires.there (omega (arith, c.if-front-prefix.false, length-map c.args.prefix.now (λ (class : ClassId). class.0))) needed
          (rw c.in_ok-copy.ensures c.requires.judged) (c.in_ok-of.ensures ∙ sym (take-map (λ (class : ClassId). class.0) front c.args.prefix.now)) c.index.ensures);
    }
