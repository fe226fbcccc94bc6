-- The deeds of the program as those of the theory, and cuts beside the certificates that they name.
use Rattle.std.specs.Prelude.{◌≡◌, ℕ, ◌<◌, List, [], map, length, flat_map, fold, All, true}
use Rattle.std.specs.List.{position_or_len}
use Rattle.ot_theory.specs.Problems.{Problem}
use Rattle.ot_theory.specs.Languages.{Term}
use Rattle.ot_theory.specs.Refutations.{is_contradiction, refutes, with_certificate}
use Rattle.refutation.specs.Terms.{terms_in}
use Rattle.refutation.specs.declared.contradiction.Contradiction.{Contradiction}
use Rattle.refutation.specs.declared.typology.Cut as typology
use Rattle.search_deeds.specs.declared.deed.Fate as program
use Rattle.search_deeds.specs.declared.deed.Fate.TheVariants as fates
use Rattle.search_deeds.specs.declared.deed.Deed as done
use Rattle.search_deeds.specs.Deeds.{Deed, Fate}
use Rattle.search_deeds.specs.Deeds.Fate.{Opened, Language, Cut}

abbrev pub fate_of : program.Fate → Fate
fate_of fates.Opened = Opened
fate_of (fates.Language levels) = Language levels
fate_of (fates.Cut contradiction) = Cut (terms_in contradiction.terms)

abbrev pub deed_of : done.Deed → Deed
deed_of deed = record { prefix = deed.prefix; fate = fate_of deed.fate }

abbrev pub deeds_in : List done.Deed → List Deed
deeds_in deeds = map deed_of deeds

-- the deeds of all lists together
abbrev pub deeds_of : List (List done.Deed) → List Deed
deeds_of lists = flat_map deeds_in lists

-- the place of the first terms that refute a prefix, and past the last where none do
abbrev pub first_refuting : List (List Term) → List ℕ → ℕ
first_refuting certificates prefix = position_or_len (λ terms. refutes terms prefix) certificates

-- the prefixes in order, each beside the first certificate that refutes it; a prefix that none before refutes adds its own
pub record IsCertified (problem : Problem) (prefixes : List (List ℕ)) (cuts : List (List ℕ × ℕ)) (certificates : List (List Term)) : Type 0 where
  pub listed : certificates ≡ fold (with_certificate problem) [] prefixes
  pub named : cuts ≡ map (λ prefix. (prefix, first_refuting certificates prefix)) prefixes
  pub within : All (λ prefix. first_refuting certificates prefix < length certificates) prefixes

-- each certificate is a contradiction of the problem
abbrev pub AreGenuine : Problem → List Contradiction → Type 0
AreGenuine problem certificates = All (λ certificate. is_contradiction problem (terms_in certificate.terms) ≡ true) certificates

-- each cut names one of so many certificates
abbrev pub AreNamed : ℕ → List typology.Cut → Type 0
AreNamed count cuts = All (λ cut. cut.certificate < count) cuts
