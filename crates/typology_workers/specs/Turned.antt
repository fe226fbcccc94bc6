-- What settling a prefix adds to what a worker did.
use Rattle.std.specs.Prelude.{◌≡◌, ℕ, ◌≤◌, ◌⊎◌, true, List, [], ◌∷◌, ◌++◌}
use Rattle.ot_base.specs.Causes.{next_number}
use Rattle.ot_theory.specs.Problems.{Problem}
use Rattle.ot_theory.specs.Refutations.{is_contradiction, refutes}
use Rattle.refutation.specs.Terms.{terms_in}
use Rattle.refutation.specs.declared.contradiction.Contradiction.{Contradiction}
use Rattle.violation_profiles.specs.WellFormed.{IsPrefix}
use Rattle.search_deeds.specs.Deeds.{IsTrueOf}
use Rattle.typology_workers.specs.Found.{opened}
use Rattle.search_deeds.specs.Gathered.{fate_of}
use Rattle.search_deeds.specs.declared.deed.Fate.{Fate}
use Rattle.prefix_deques.specs.Lanes.{SeatView}
use Rattle.refutation_store.specs.Fronts.{FrontView}
use Rattle.typology_workers.specs.declared.outcome.Work.{Work}
use Rattle.typology_workers.specs.Consulted.{HoldsAll, IfCut, IsCertificate, IsValue, StandsNoLater}
use Rattle.typology_workers.specs.Turns.{HasHanded}

-- What cuts the prefix off is carried as it must be. It stands no later than any contradiction that refutes the prefix and was
-- a value before, or at all places once the front holds them.
pub record IsEarliest (problem : Problem) (places : ℕ) (prefix : List ℕ) (old new : List Contradiction) (found : Contradiction) : Type 0 where
  pub carried : IsValue new found ⊎ (HoldsAll places new × IsCertificate problem prefix found)
  pub best : (known : Contradiction) → is_contradiction problem (terms_in known.terms) ≡ true → refutes (terms_in known.terms) prefix ≡ true
      → IsValue old known ⊎ HoldsAll places old → StandsNoLater new known found

-- what the looks and the consult of a prefix give
pub record IsFated (problem : Problem) (places : ℕ) (prefix : List ℕ) (old new : FrontView) (fate : Fate) : Type 0 where
  pub true_of : IsTrueOf problem prefix (fate_of fate)
  pub best : IfCut fate (IsEarliest problem places prefix old.values new.values)
  pub looked : HoldsAll places new.values ⊎ (next_number old.misses ≤ new.misses)

-- a prefix of the problem has its deed, and its children are handed on if it is opened
pub record HasDeed (problem : Problem) (places : ℕ) (prefix : List ℕ) (seat seat' : SeatView) (front front' : FrontView) (work work' : Work) : Type 0 where
  pub fate : Fate
  pub is_prefix : IsPrefix problem prefix
  pub fated : IsFated problem places prefix front front' fate
  pub handed : HasHanded (opened problem prefix fate) seat seat' work.outbox work'.outbox
  pub deeds : work'.deeds ≡ work.deeds ++ (record { prefix = prefix; fate = fate }) ∷ []
  pub strange : work'.strange ≡ work.strange

-- what is no prefix of the problem is strange
pub record IsStrange (problem : Problem) (prefix : List ℕ) (seat seat' : SeatView) (front front' : FrontView) (work work' : Work) : Type 0 where
  pub is_none : ¬ IsPrefix problem prefix
  pub same_seat : seat' ≡ seat
  pub same_front : front' ≡ front
  pub deeds : work'.deeds ≡ work.deeds
  pub outbox : work'.outbox ≡ work.outbox
  pub strange : work'.strange ≡ work.strange ++ prefix ∷ []

abbrev pub HasSettled : Problem → ℕ → List ℕ → SeatView → SeatView → FrontView → FrontView → Work → Work → Type 0
HasSettled problem places prefix seat seat' front front' work work' =
    HasDeed problem places prefix seat seat' front front' work work' ⊎ IsStrange problem prefix seat seat' front front' work work'
