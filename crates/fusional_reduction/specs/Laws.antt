-- What a basis is for: it says the same of rankings as the set, and no member of it can be left out.
use Rattle.std.specs.Prelude.{◌≡◌, ◌≢◌, ℕ, false, List, ◌∷◌, ◌++◌, AllPairs}
use Rattle.std.specs.List.{list_all}
use Rattle.ot_theory.specs.declared.Mark.{Mark}
use Rattle.ot_theory.specs.Rankings.{IsRanking}
use Rattle.ot_theory.specs.Conditions.{keeps}
use Rattle.ot_theory.specs.Entailment.{entails}

-- The same rankings keep the two sets of conditions.
abbrev pub HaveSameRankings : ℕ → List (List Mark) → List (List Mark) → Type 0
HaveSameRankings n set basis = (order : List ℕ) → IsRanking n order → list_all (keeps order) basis ≡ list_all (keeps order) set

-- No member is entailed by the others.
abbrev pub AreIndependent : ℕ → List (List Mark) → Type 0
AreIndependent n basis = (before : List (List Mark)) (marks : List Mark) (behind : List (List Mark)) → basis ≡ before ++ marks ∷ behind → entails n (before ++ behind) marks ≡ false

-- No member stands in the list twice.
abbrev pub AreDistinct : List (List Mark) → Type 0
AreDistinct basis = AllPairs (λ first second. first ≢ second) basis
