use Rattle.std.proofs.Common.{◌≡◌, ◌∙◌, true, sym, drop}
use Rattle.std.specs.List.{list_all}
use Rattle.std.proofs.lemmas.List.{take_rest}
use Rattle.ot_theory.specs.Hierarchies.{satisfies}
use Rattle.typology_core.proofs.Lower.{all-satisfied, judged-lower}
use Rattle.typology_core.proofs.walk.hierarchy_from.Goals as goal

pub returns-then-satisfies_all : goal.returns-then-satisfies_all
returns-then-satisfies_all c =
    let conditions = c.args.path.now.asked.conditions.items in
    let rest : list_all (satisfies c.args.strata.now) (drop c.args.first conditions) ≡ true = rw (c.as_slice-conditions.ensures.value, take_rest conditions c.args.first) at (sym c.satisfies_all.ensures ∙ c.if-satisfies_all.true) in
    judged-lower c.args.p.now c.args.path.now c.args.strata.now c.constraints.ensures.well_formed c.requires.path c.requires.lower (all-satisfied c.args.strata.now conditions c.args.first c.requires.satisfied rest)
