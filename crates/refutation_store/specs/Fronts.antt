-- What contracts see of a store and of its fronts.
use Rattle.std.specs.Prelude.{◌≡◌, ◌≢◌, ◌⊎◌, ℕ, ◌+◌, ◌-◌, ◌≤◌, ◌^◌, List, [], ◌∷◌, ◌++◌, length, map, min, replicate, Option, Some, None, slice_get}
use Rattle.refutation_store.specs.declared.store.Kept.{Kept}
use Rattle.refutation_store.specs.declared.store.Kept.TheVariants.{At, Full}
use Rattle.note_sign.specs.declared.Sign.{Sign}
use Rattle.refutation.specs.declared.contradiction.Contradiction.{Contradiction}

-- the names of the store's places, what the first of them showed, and how often a place gave nothing
pub record FrontView : Type 0 where
  pub store : List ℕ
  pub values : List Contradiction
  pub misses : ℕ

-- a front of the store that holds nothing
abbrev pub Begins : List ℕ → FrontView → Type 0
Begins store f = f ≡ record { store = store; values = []; misses = 0 }

-- one more than before, or the greatest number of 64 bits
abbrev pub one_more : ℕ → ℕ
one_more n = min (n + 1) (2 ^ 64 - 1)

-- the front holds this contradiction too, behind the others, and nothing else has changed
abbrev pub Grows : FrontView → Contradiction → FrontView → Type 0
Grows f value g = g ≡ record f { values = f.values ++ value ∷ [] }

-- all places are held and nothing has changed, or the misses alone rose
abbrev pub IsMissed : FrontView → FrontView → Type 0
IsMissed f g = ((g ≡ f) × (length f.store ≤ length f.values)) ⊎ (g ≡ record f { misses = one_more f.misses })

-- the front holds more behind what it held, and nothing else has changed
pub record Learns (f g : FrontView) : Type 0 where
  pub more : List Contradiction
  pub after : g ≡ record f { values = f.values ++ more }

-- no place from this one on shows the contradiction
abbrev pub NotMet : Contradiction → ℕ → List Contradiction → Type 0
NotMet c start values = (k : ℕ) → start ≤ k → slice_get values k ≢ Some c

-- At tells the last place, which was met in this call and shows the contradiction, as none before it that was met does. Full
-- comes where all places are held, and none that was met shows it.
abbrev pub IsKept : ℕ → Contradiction → List Contradiction → List Contradiction → Kept → Type 0
IsKept places c old new (At n) = (length new ≡ n + 1) × (length old ≤ n) × (slice_get new n ≡ Some c) × ((k : ℕ) → length old ≤ k → slice_get new k ≡ Some c → k ≡ n)
IsKept places c old new Full = (length new ≡ places) × NotMet c (length old) new

-- both hold the same at every place that both hold
abbrev pub AgreeOn : List Contradiction → List Contradiction → Type 0
AgreeOn xs ys = (k : ℕ) (x y : Contradiction) → slice_get xs k ≡ Some x → slice_get ys k ≡ Some y → x ≡ y

-- the values up to the first that is not known
abbrev pub known_of : List (Option Contradiction) → List Contradiction
known_of [] = []
known_of (None ∷ os) = []
known_of (Some x ∷ os) = x ∷ known_of os

-- these values, and then so many that are not known
abbrev pub all_known : List Contradiction → ℕ → List (Option Contradiction)
all_known xs k = map (λ x. Some x) xs ++ replicate k None

abbrev pub knowns : List (Sign Contradiction) → List (Option Contradiction)
knowns = map (λ s. s.known)

abbrev pub cells_of : List (Sign Contradiction) → List ℕ
cells_of = map (λ s. s.cell)

-- the signs of the first len places know their values, and the others nothing
pub record IsFront (signs : List (Sign Contradiction)) (len : ℕ) : Type 0 where
  pub knows : knowns signs ≡ all_known (known_of (knowns signs)) (length signs - len)
  pub count : length (known_of (knowns signs)) ≡ len
  pub fits : len ≤ length signs
