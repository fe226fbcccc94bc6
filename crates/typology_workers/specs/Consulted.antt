-- What a worker took from the store.
use Rattle.std.specs.Prelude.{◌≡◌, ℕ, ◌≤◌, ◌⊎◌, true, List, length, slice_get, Some, All, AllPairs}
use Rattle.ot_theory.specs.Problems.{Problem}
use Rattle.ot_theory.specs.Languages.{terms_of}
use Rattle.ot_theory.specs.Refutations.{certificate_of, refutes}
use Rattle.refutation.specs.Terms.{terms_in}
use Rattle.refutation.specs.declared.contradiction.Contradiction.{Contradiction}
use Rattle.search_deeds.specs.declared.deed.Deed.{Deed}
use Rattle.search_deeds.specs.declared.deed.Fate as fates
use Rattle.search_deeds.specs.declared.deed.Fate.TheVariants as fate

-- if this is a cut, its contradiction has the property
abbrev pub IfCut : fates.Fate → (Contradiction → Type 0) → Type 0
IfCut fate.Opened P = Unit {0}
IfCut (fate.Language levels) P = Unit {0}
IfCut (fate.Cut found) P = P found

-- a front with these values holds all of so many places
abbrev pub HoldsAll : ℕ → List Contradiction → Type 0
HoldsAll places values = places ≤ length values

-- the certificate of a prefix
abbrev pub IsCertificate : Problem → List ℕ → Contradiction → Type 0
IsCertificate problem prefix found = terms_in found.terms ≡ certificate_of problem (terms_of problem prefix)

-- one of the values
abbrev pub IsValue : List Contradiction → Contradiction → Type 0
IsValue values found = (place : ℕ) × (slice_get values place ≡ Some found)

-- What cuts the prefix off is a value of the front, or its certificate where the front holds all places.
abbrev pub IsCarried : Problem → ℕ → List Contradiction → Deed → Type 0
IsCarried problem places values deed = IfCut deed.fate (λ found. IsValue values found ⊎ (HoldsAll places values × IsCertificate problem deed.prefix found))

-- Wherever the first stands, the second stands there or before: so its first place is not after that of the first, if the first
-- has one.
abbrev pub StandsNoLater : List Contradiction → Contradiction → Contradiction → Type 0
StandsNoLater values earlier later = (place : ℕ) → slice_get values place ≡ Some earlier → (first : ℕ) × (first ≤ place) × (slice_get values first ≡ Some later)

-- Of an earlier and a later deed that cut prefixes off: if what the earlier carries is a value of the front and refutes the later's
-- prefix, the later carries a value of the front whose first place is not after its first place.
abbrev pub IsConsulted : List Contradiction → Deed → Deed → Type 0
IsConsulted values earlier later =
    IfCut earlier.fate (λ known. IfCut later.fate (λ found. refutes (terms_in known.terms) later.prefix ≡ true → StandsNoLater values known found))

-- The deeds stand in the order of settling.
pub record AreConsulted (problem : Problem) (places : ℕ) (values : List Contradiction) (deeds : List Deed) : Type 0 where
  pub carried : All (IsCarried problem places values) deeds
  pub consulted : AllPairs (IsConsulted values) deeds
