-- A list of cuts by what each does not share with the one before it.
use Rattle.std.specs.Prelude.{◌≡◌, ℕ, ◌+◌, ◌≤◌, List, [], ◌∷◌, ◌++◌, length, map, take, drop, slice_index_or, All}
use Rattle.ot_base.specs.declared.tableau.ClassId.{ClassId}
use Rattle.refutation.specs.Prefixes.{class_numbers}
use Rattle.refutation.specs.declared.typology.Cut.{Cut}
use Rattle.cut_list.specs.declared.list.Step.{Step}

-- the prefix of the cut before the one at this place, and of the first none
abbrev pub prefix_before : List Cut → ℕ → List ℕ
prefix_before cuts k = slice_index_or ([] ∷ map (λ cut. cut.prefix) cuts) k []

-- the classes of a cut, from those of the cut before it
abbrev pub changed : List ClassId → List ClassId → Step → List ClassId
changed classes before step = take step.kept before ++ take step.count (drop step.start classes)

-- the cuts, from the classes of the one before the first of them
unfoldable pub cuts_by : List ClassId → List ClassId → List Step → List Cut
cuts_by classes before [] = []
cuts_by classes before (step ∷ steps) =
    record { prefix = class_numbers (changed classes before step); certificate = step.certificate } ∷ cuts_by classes (changed classes before step) steps

-- the classes of the last cut
unfoldable pub last_by : List ClassId → List ClassId → List Step → List ClassId
last_by classes before [] = before
last_by classes before (step ∷ steps) = last_by classes (changed classes before step) steps

-- Each step finds its own classes among those of all, and the classes of the last cut are at hand.
pub record IsWhole (classes : List ClassId) (steps : List Step) (end : List ClassId) : Type 0 where
  pub within : All (λ step. step.start + step.count ≤ length classes) steps
  pub last : end ≡ last_by classes [] steps
