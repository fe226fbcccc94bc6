-- Laws of the problem that a tableau poses.
use Rattle.std.specs.Prelude.{◌≡◌, ◌↔◌, ℕ, ◌<◌, List, None, All, length}
use Rattle.ot_base.specs.declared.tableau.InputRows.{InputRows}
use Rattle.ot_base.specs.Tableaus.{input_of_rows}
use Rattle.ot_theory.specs.Rankings.{IsRanking, optimal}
use Rattle.ot_theory.specs.Problems.{Problem}
use Rattle.ot_theory.specs.Languages.{classes_at}
use Rattle.ot_theory.specs.Laws.{keeps_over_others}
use Rattle.violation_profiles.specs.WellFormed.{IsWellFormed}

-- Of the classes of an input, one is optimal exactly where the ranking keeps its conditions over all others.
abbrev pub IsOptimalByConditions : Problem → List ℕ → ℕ → ℕ → Type 0
IsOptimalByConditions problem order i a =
    IsWellFormed problem → IsRanking problem.constraints order → i < length problem.inputs → a < length (classes_at problem i)
    → optimal order (classes_at problem i) a ≡ keeps_over_others order (classes_at problem i) a

-- An input of a tableau has no winner exactly where no candidate has a positive count.
abbrev pub HasWinnerByCounts : InputRows → Type 0
HasWinnerByCounts rows = (input_of_rows rows).winner ≡ None ↔ All (λ row. row.count ≡ 0) rows.candidates
