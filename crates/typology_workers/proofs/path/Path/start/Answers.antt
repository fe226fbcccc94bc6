-- what the given pairs ask stands at the front
use Rattle.std.proofs.Common.{[], refl}
use Rattle.ot_theory.specs.Languages.{terms_of}
use Rattle.refutation.proofs.Implied.{asked-nothing}
use Rattle.typology_workers.proofs.Going.{path_none}
use Rattle.typology_workers.proofs.path.Path.start.Goals as goal

pub returns : goal.returns
returns c =
    let problem = c.args.p.now in
    path_none problem _ c.new-2.ensures.items
    (c.in_ok-append.ensures.asked problem [] (terms_of problem []) (rw (c.nothing-asked.ensures.terms, c.nothing-asked.ensures.conditions) (asked-nothing problem)) c.in_ok-ready.ensures.givens) c.in_ok-ready.ensures c.in_ok-new.ensures refl
