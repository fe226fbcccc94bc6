-- The winners of inputs, by their numbers, as some terms give them.
use Rattle.std.specs.Prelude.{◌≡◌, ℕ, ◌<◌, List, length, slice_index_or, Option, None, option_map}
use Rattle.ot_base.specs.declared.tableau.ClassId.{ClassId}
use Rattle.ot_theory.specs.Languages.{Term, Loser, Given}
use Rattle.ot_theory.specs.Refutations.{winner_in}

-- the winner of an input in a list of them, if it has one
abbrev pub class_at : List (Option ClassId) → ℕ → Option ClassId
class_at winners i = slice_index_or winners i None

-- the first winner that the terms give each input
abbrev pub AreWinners : List Term → List (Option ClassId) → Type 0
AreWinners terms winners = (i : ℕ) → i < length winners → option_map (λ a. a.0) (class_at winners i) ≡ winner_in terms i

-- a term of an input below the number
abbrev pub IsBelow : ℕ → Term → Type 0
IsBelow n (Loser i a b) = i < n
IsBelow n (Given k) = Unit
