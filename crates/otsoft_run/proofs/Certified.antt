-- Each certificate is a contradiction, so it has terms, and they are some of the problem.
use Rattle.std.proofs.Common.{◌≡◌, ◌<◌, length, true, List}
use Rattle.std.specs.Prelude.{All, IsTrue}
use Rattle.std.proofs.lemmas.List.Elements.{All-weaker}
use Rattle.ot_theory.specs.Problems.{Problem}
use Rattle.ot_theory.specs.Refutations.{is_contradiction}
use Rattle.refutation.specs.declared.contradiction.Contradiction.{Contradiction}
use Rattle.refutation.specs.Terms.{are_terms, terms_in}
use Rattle.report_text.proofs.Genuine.{genuine-some, genuine-terms}
use Rattle.search_deeds.specs.Gathered.{AreGenuine}

pub certificates-some : (problem : Problem) (certificates : List Contradiction) → AreGenuine problem certificates → All (λ certificate. 0 < length certificate.terms) certificates
certificates-some problem certificates h =
    All-weaker
    (λ (certificate : Contradiction). is_contradiction problem (terms_in certificate.terms) ≡ true)
    (λ (certificate : Contradiction). 0 < length certificate.terms)
    (λ certificate one. genuine-some problem certificate.terms one)
    certificates
    h

pub certificates-terms : (problem : Problem) (certificates : List Contradiction) → AreGenuine problem certificates → All (λ certificate. IsTrue (are_terms problem certificate.terms)) certificates
certificates-terms problem certificates h =
    All-weaker
    (λ (certificate : Contradiction). is_contradiction problem (terms_in certificate.terms) ≡ true)
    (λ (certificate : Contradiction). IsTrue (are_terms problem certificate.terms))
    (λ certificate one. genuine-terms problem certificate.terms one)
    certificates
    h
