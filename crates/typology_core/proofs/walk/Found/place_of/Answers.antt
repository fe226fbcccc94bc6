use Rattle.std.proofs.Common.{◌≡◌, List, true, arith}
use Rattle.std.proofs.lemmas.List.{length-map}
use Rattle.std.proofs.lemmas.List.Elements.{All-map}
use Rattle.ot_base.specs.declared.tableau.ClassId.{ClassId}
use Rattle.ot_theory.specs.Languages.{Term}
use Rattle.ot_theory.specs.Refutations.{is_contradiction}
use Rattle.refutation.specs.declared.contradiction.Contradiction.{Contradiction}
use Rattle.refutation.specs.Terms.{terms_in}
use Rattle.refutation.specs.Typologies.{certificates_of}
use Rattle.typology_core.proofs.walk.Found.place_of.Goals as goal

pub place_of-requires-clause-refuting : goal.place_of-requires-clause-refuting
place_of-requires-clause-refuting c =
    let problem = c.args.p.now in
    let certificates = c.args.self.now.certificates in
    let genuine = All-map (λ (terms : List Term). is_contradiction problem terms ≡ true) (λ (d : Contradiction). terms_in d.terms) certificates c.requires.found.genuine in
    rw c.as_slice.ensures (c.bucket_for.ensures.refuting (certificates_of certificates) c.requires.found.indexed.places genuine
    (λ k below. c.requires.reached.first k (omega (arith, below, length-map c.args.classes.now (λ (class : ClassId). class.0)))))

pub place_of-requires-clause-blocked : goal.place_of-requires-clause-blocked
place_of-requires-clause-blocked c = rw c.as_slice.ensures (c.bucket_for.ensures.blocked (certificates_of c.args.self.now.certificates) c.requires.found.indexed.blocked)
