-- Languages, cuts and certificates as the theory has them.
use Rattle.std.specs.Prelude.{ℕ, List, map}
use Rattle.refutation.specs.declared.contradiction.Contradiction.{Contradiction}
use Rattle.refutation.specs.declared.typology.Cut.{Cut}
use Rattle.refutation.specs.declared.typology.Language.{Language}
use Rattle.refutation.specs.Terms.{terms_in}
use Rattle.ot_theory.specs.Languages.{Term}

-- each choice beside its hierarchy
abbrev pub found_of : List Language → List (List ℕ × List ℕ)
found_of languages = map (λ language. (language.choice, language.strata)) languages

-- each prefix beside the place of its certificate
abbrev pub cuts_of : List Cut → List (List ℕ × ℕ)
cuts_of cuts = map (λ cut. (cut.prefix, cut.certificate)) cuts

-- the terms of each certificate
abbrev pub certificates_of : List Contradiction → List (List Term)
certificates_of certificates = map (λ certificate. terms_in certificate.terms) certificates
