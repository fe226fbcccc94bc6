-- An index of the values of a front that are contradictions of the problem, by the input and the winner of their last terms, or
-- beside each other where that is a given pair.
use Rattle.std.specs.Prelude.{◌≡◌, ℕ, ◌+◌, ◌-◌, ◌*◌, ◌%◌, ◌<◌, ◌≤◌, true, List, [], ◌∷◌, ◌++◌, length, slice_get, slice_index, slice_index_or, slice_set, Option, Some, None}
use Rattle.typology_workers.specs.declared.index.TheConstants.{STRIDE}
use Rattle.ot_theory.specs.Problems.{Problem}
use Rattle.ot_theory.specs.Refutations.{is_contradiction, refutes}
use Rattle.refutation.specs.Terms.{terms_in}
use Rattle.refutation.specs.declared.contradiction.Contradiction.{Contradiction}
use Rattle.refutation.specs.declared.term.Term.{Term}
use Rattle.refutation.specs.declared.term.Term.TheVariants.{Loser, Given}
use Rattle.typology_workers.specs.Found.{cuts_off}

-- the slot of a class of an input, of so many, of which the last one is that of given pairs
abbrev pub slot_of : ℕ → ℕ → ℕ → ℕ
slot_of slots i a = (i * STRIDE + a) % (slots - 1)

-- the slot of a term: that of its input and its winner, or of given pairs
abbrev pub slot_for : ℕ → Term → ℕ
slot_for slots (Loser input winner loser) = slot_of slots input.0 winner.0
slot_for slots (Given k) = slots - 1

abbrev pub last_of : List Term → Option Term
last_of terms = slice_get terms (length terms - 1)

-- the number stands in the list
abbrev pub Has : List ℕ → ℕ → Type 0
Has places k = (j : ℕ) × (j < length places) × (slice_index places j ≡ k)

-- the value at this place is a contradiction of the problem
abbrev pub IsGenuineAt : Problem → List Contradiction → ℕ → Type 0
IsGenuineAt problem values k = (value : Contradiction) × (slice_get values k ≡ Some value) × (is_contradiction problem (terms_in value.terms) ≡ true)

-- the value at this place refutes the prefix
abbrev pub RefutesAt : List Contradiction → List ℕ → ℕ → Type 0
RefutesAt values prefix k = (value : Contradiction) × (slice_get values k ≡ Some value) × (refutes (terms_in value.terms) prefix ≡ true)

-- the value at this place is a contradiction of the problem and refutes the prefix
abbrev pub CutsOffAt : Problem → List Contradiction → List ℕ → ℕ → Type 0
CutsOffAt problem values prefix k = (value : Contradiction) × (slice_get values k ≡ Some value) × (cuts_off problem prefix value ≡ true)

-- So many values are indexed: the place of each that is a contradiction of the problem stands in the slot of its last term. No slot
-- holds the place of any other value.
pub record IsIndex (problem : Problem) (slots : List (List ℕ)) (indexed : ℕ) (values : List Contradiction) : Type 0 where
  pub some : 1 < length slots
  pub within : indexed ≤ length values
  pub genuine : (s k : ℕ) → Has (slice_index_or slots s []) k → IsGenuineAt problem values k
  pub each : (k : ℕ) (value : Contradiction) (term : Term) → k < indexed → slice_get values k ≡ Some value → is_contradiction problem (terms_in value.terms) ≡ true → last_of value.terms ≡ Some term
      → Has (slice_index_or slots (slot_for (length slots) term) []) k

-- the slots with one place more, if the value has a term
abbrev pub slots_with : Option Term → ℕ → List (List ℕ) → List (List ℕ)
slots_with None k slots = slots
slots_with (Some term) k slots =
    let slot = slot_for (length slots) term in
    slice_set slots slot (slice_index_or slots slot [] ++ k ∷ [])
