use Rattle.std.proofs.Common.{arith, refl}
use Rattle.ot_theory.specs.Languages.{terms_of}
use Rattle.typology_workers.specs.Paths.{prefix_of}
use Rattle.typology_workers.proofs.Going.{path-on}
use Rattle.typology_workers.proofs.path.Path.go_on.Goals as goal

pub returns-clause-path : goal.returns-clause-path
returns-clause-path c =
    let path = c.args.self.now in
    path-on c.args.p.now path _ _ c.len.result c.requires.path c.in_ok-push.ensures.items (omega (arith, c.len.ensures, path.steps.ok.0)) (omega (arith, c.len-before.ensures, path.asked.terms.ok.0))
    (c.in_ok-ask.ensures.asked (terms_of c.args.p.now (prefix_of path)) c.requires.path.asked) c.in_ok-ask.ensures.terms c.in_ok-ask.ensures.conditions c.make.ensures refl refl
