-- Laws of the definitions.
use Rattle.std.specs.Prelude.{◌≡◌, ℕ, Bool, List}
use Rattle.ot_theory.specs.declared.Mark.{Mark}
use Rattle.biased_demotion.specs.Biased.{IsNext, IsBiased}

-- Over what is placed there is at most one next stratum.
abbrev pub HasOneNext : List Bool → List ℕ → List (List Mark) → Type 0
HasOneNext faith levels set = (a b : List ℕ) → IsNext faith levels set a → IsNext faith levels set b → a ≡ b

-- A set has at most one hierarchy of biased demotion.
abbrev pub HasOneHierarchy : List Bool → List (List Mark) → Type 0
HasOneHierarchy faith set = (a b : List ℕ) → IsBiased faith set a → IsBiased faith set b → a ≡ b
