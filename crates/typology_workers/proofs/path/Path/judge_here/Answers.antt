use Rattle.refutation.proofs.Asking.{asked-genuine, asked-one}
use Rattle.typology_workers.specs.Paths.{prefix_of}
use Rattle.typology_workers.proofs.Going.{held-here, refuted-here}
use Rattle.typology_workers.proofs.path.Path.judge_here.Goals as goal

pub core_of_conditions-requires-clause-genuine : goal.core_of_conditions-requires-clause-genuine
core_of_conditions-requires-clause-genuine c =
    let path = c.args.self.now in
    rw c.as_slice-terms.ensures.value (asked-genuine c.args.p.now (prefix_of path) path.asked.terms.items path.asked.conditions.items c.requires.prefix c.requires.path.asked)

pub core_of_conditions-requires-clause-one : goal.core_of_conditions-requires-clause-one
core_of_conditions-requires-clause-one c =
    let path = c.args.self.now in
    rw c.as_slice-terms.ensures.value (asked-one c.args.p.now (prefix_of path) path.asked.terms.items path.asked.conditions.items c.requires.path.asked)

pub returns-in-Some : goal.returns-in-Some
returns-in-Some c =
    held-here c.args.p.now c.args.self.now c.constraints.result c.as_slice-conditions.result.now c.in-Some.strata c.constraints.ensures.well_formed c.requires.prefix c.requires.path c.constraints.ensures.value c.as_slice-conditions.ensures.value c.in-Some.ensures.ranked

pub returns-in_ok-core-in-None : goal.returns-in_ok-core-in-None
returns-in_ok-core-in-None c =
    refuted-here c.args.p.now c.args.self.now c.constraints.result c.as_slice-conditions.result.now c.as_slice-terms.result.now c.in_ok-core-in-None.core c.constraints.ensures.well_formed c.requires.prefix c.requires.path c.constraints.ensures.value
    c.as_slice-conditions.ensures.value c.as_slice-terms.ensures.value c.in-None.ensures.stuck c.in_ok-core-in-None.ensures.certificate c.in_ok-core-in-None.ensures.contradiction
