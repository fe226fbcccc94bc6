-- What the tests' threads give.
use Rattle.std.specs.Prelude.{◌≡◌, ℕ, ◌<◌, List, length, Result, IfOk, slice_index_or}
use Rattle.erc_vectors.specs.declared.list.NoMemory.{NoMemory}
use Rattle.refutation_store.specs.Fronts.{FrontView}

-- each front that there is is one of the store
abbrev pub AreOf : List ℕ → List (Result FrontView NoMemory) → Type 0
AreOf store fronts = (k : ℕ) (d : Result FrontView NoMemory) → k < length fronts → IfOk (slice_index_or fronts k d) (λ front. front.store ≡ store)
