use Rattle.std.proofs.Common.{◌≡◌, ◌∙◌, ℕ, List, true, sym, ap, arith, length}
use Rattle.std.proofs.lemmas.List.{length-map}
use Rattle.std.proofs.lemmas.List.Elements.{All-map}
use Rattle.ot_base.specs.declared.tableau.ClassId.{ClassId}
use Rattle.ot_theory.specs.Languages.{Term}
use Rattle.ot_theory.specs.Refutations.{is_contradiction}
use Rattle.refutation.specs.declared.contradiction.Contradiction.{Contradiction}
use Rattle.refutation.specs.Terms.{terms_in}
use Rattle.refutation.specs.Typologies.{certificates_of}
use Rattle.refutation.specs.Prefixes.{class_numbers}
use Rattle.search_deeds.proofs.Named.{first-added, listed-new, listed-old}
use Rattle.search_deeds.proofs.Admitting.{HaveRoom-blocked}
use Rattle.search_deeds.proofs.certified.name_certificate.Goals as goal

pub returns-in-Some-clause-listed : goal.returns-in-Some-clause-listed
returns-in-Some-clause-listed c =
    listed-old c.args.p.now c.args.certificates.now c.as_slice.result.now c.args.prefix.now (class_numbers c.as_slice-classes.result.now) c.in-Some.place c.as_slice.ensures c.as_slice-classes.ensures c.in-Some.ensures.some

pub returns-clause-listed : goal.returns-clause-listed
returns-clause-listed c =
    listed-new c.args.p.now c.args.certificates.now c.as_slice.result.now c.push.new.self c.in_ok-certificate.certificate c.args.prefix.now (class_numbers c.as_slice-classes.result.now)
    c.as_slice.ensures c.as_slice-classes.ensures c.in_default.ensures.none c.in_ok-certificate.ensures.certificate c.in_ok-push.ensures.ok

pub returns-clause-first : goal.returns-clause-first
returns-clause-first c =
    first-added c.args.certificates.now c.push.new.self c.in_ok-certificate.certificate c.args.prefix.now c.len-place.result c.len-place.ensures
    (rw (c.as_slice.ensures, c.as_slice-classes.ensures) at c.in_default.ensures.none) c.in_ok-push.ensures.ok (rw c.as_slice-classes.ensures at c.in_ok-certificate.ensures.refutes)

pub place_of-requires-clause-refuting : goal.place_of-requires-clause-refuting
place_of-requires-clause-refuting c =
    let problem = c.args.p.now in
    let certificates = c.args.certificates.now in
    let genuine = All-map (λ (terms : List Term). is_contradiction problem terms ≡ true) (λ (d : Contradiction). terms_in d.terms) certificates c.requires.genuine in
    let long : length c.as_slice-classes.result.now ≡ length c.args.prefix.now = sym (length-map c.as_slice-classes.result.now (λ (class : ClassId). class.0)) ∙ ap (λ (l : List ℕ). length l) c.as_slice-classes.ensures in
    rw c.as_slice.ensures (c.bucket_for.ensures.refuting (certificates_of certificates) c.requires.indexed.places genuine
    (λ k below. rw c.as_slice-classes.ensures (c.requires.shortest k (omega (arith, long)))))

pub place_of-requires-clause-blocked : goal.place_of-requires-clause-blocked
place_of-requires-clause-blocked c = rw c.as_slice.ensures (c.bucket_for.ensures.blocked (certificates_of c.args.certificates.now) c.requires.indexed.blocked)

pub add-requires-clause-room : goal.add-requires-clause-room
add-requires-clause-room c = HaveRoom-blocked (certificates_of c.args.certificates.now) _ _ c.requires.indexed.blocked
