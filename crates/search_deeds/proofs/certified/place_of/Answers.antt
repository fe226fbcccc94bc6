use Rattle.std.proofs.Common.{◌≡◌, ◌<◌, ◌+◌, ℕ, [], List, Bool, ◌∙◌, ap, arith, get_or, sym, length, slice_index}
use Rattle.std.proofs.lemmas.List.{length-map}
use Rattle.ot_theory.specs.Languages.{Term}
use Rattle.ot_theory.specs.Refutations.{refutes}
use Rattle.refutation.specs.Terms.{terms_in}
use Rattle.refutation.specs.declared.contradiction.Contradiction.{Contradiction}
use Rattle.refutation.specs.Prefixes.{class_numbers}
use Rattle.refutation.specs.Typologies.{certificates_of}
use Rattle.search_deeds.proofs.Choices.{certificate-at, first-found, first-none}
use Rattle.search_deeds.proofs.Passing.{none_yet, NoneRefutes-one, NoneRefutes-passed}
use Rattle.search_deeds.proofs.certified.place_of.Goals as goal

told : (certificates : List Contradiction) (prefix : List ℕ) (place : ℕ) (it : Contradiction) (answer : Bool) → place < length certificates → it ≡ get_or certificates place it → answer ≡ refutes (terms_in it.terms) prefix → refutes (get_or (certificates_of certificates) place []) prefix ≡ answer
told certificates prefix place it answer within is e =
    ap (λ (terms : List Term). refutes terms prefix) (certificate-at certificates place it within ∙ ap (λ (d : Contradiction). terms_in d.terms) (sym is)) ∙ sym e

pub loop-k-init : goal.loop-k-init
loop-k-init c =
    NoneRefutes-passed (certificates_of c.args.certificates.now) (class_numbers c.args.prefix.now) c.args.places.now c.args.blocks.now 0 c.next_admitted-k.result c.requires.blocked
    c.next_admitted-k.ensures.onward c.next_admitted-k.ensures.within c.next_admitted-k.ensures.passed
    (none_yet (certificates_of c.args.certificates.now) (class_numbers c.args.prefix.now) c.args.places.now)

pub returns-then-refutes-clause-some : goal.returns-then-refutes-clause-some
returns-then-refutes-clause-some c =
    let certificates = c.args.certificates.now in
    let k = c.loop-k.k in
    let within : k < length c.args.places.now = omega (arith, c.loop-k-test.true) in
    let place : slice_index c.args.places.now k < length certificates = omega (arith, c.requires.refuting.within k 0 within, length-map certificates (λ (d : Contradiction). terms_in d.terms)) in (
      sym (first-found (certificates_of certificates) (class_numbers c.args.prefix.now) c.args.places.now k c.requires.refuting within c.loop-k.invariant.each
          (told certificates (class_numbers c.args.prefix.now) (slice_index c.args.places.now k) c.index-certificates-place.result c.refutes.result place c.index-certificates-place.is c.refutes.ensures ∙ c.if-refutes.true)),
      place,
    )

pub loop-k-preserved : goal.loop-k-preserved
loop-k-preserved c =
    let certificates = c.args.certificates.now in
    let k = c.loop-k.k in
    let within : k < length c.args.places.now = omega (arith, c.loop-k-test.true) in
    let place : slice_index c.args.places.now k < length certificates = omega (arith, c.requires.refuting.within k 0 within, length-map certificates (λ (d : Contradiction). terms_in d.terms)) in
    NoneRefutes-passed (certificates_of certificates) (class_numbers c.args.prefix.now) c.args.places.now c.args.blocks.now (k + 1) c.next_admitted-k-in-loop-k.result c.requires.blocked
    c.next_admitted-k-in-loop-k.ensures.onward c.next_admitted-k-in-loop-k.ensures.within c.next_admitted-k-in-loop-k.ensures.passed
    (NoneRefutes-one (certificates_of certificates) (class_numbers c.args.prefix.now) c.args.places.now k within
    (told certificates (class_numbers c.args.prefix.now) (slice_index c.args.places.now k) c.index-certificates-place.result c.refutes.result place c.index-certificates-place.is c.refutes.ensures ∙ c.if-refutes.false) c.loop-k.invariant)

pub returns-clause-none : goal.returns-clause-none
returns-clause-none c =
    first-none (certificates_of c.args.certificates.now) (class_numbers c.args.prefix.now) c.args.places.now c.requires.refuting (λ j below. c.loop-k.invariant.each j (omega (arith, c.loop-k-test.false)))
    ∙ length-map c.args.certificates.now _
