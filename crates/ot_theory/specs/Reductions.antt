-- Conditions that others of a set imply, and lists of terms without some of those that earlier ones imply.
use Rattle.std.specs.Prelude.{◌≡◌, ℕ, Bool, true, List, ◌++◌, map}
use Rattle.std.specs.List.{list_all}
use Rattle.ot_theory.specs.declared.Mark.{Mark}
use Rattle.ot_theory.specs.Conditions.{keeps, mark_at, is_win, is_loss}
use Rattle.ot_theory.specs.Hierarchies.{satisfies}
use Rattle.ot_theory.specs.Problems.{Problem}
use Rattle.ot_theory.specs.Languages.{Term, condition_of}
use Rattle.ot_theory.specs.Refutations.{no_ranking_keeps, kept_of}

-- The one has W only where the other has it, and L wherever the other has it.
pub record IsStronger (marks weaker : List Mark) : Type 0 where
  pub wins : (c : ℕ) → is_win (mark_at marks c) ≡ true → is_win (mark_at weaker c) ≡ true
  pub losses : (c : ℕ) → is_loss (mark_at weaker c) ≡ true → is_loss (mark_at marks c) ≡ true

-- What keeps a set keeps this condition, and what satisfies the set satisfies it.
pub record IsImplied (set : List (List Mark)) (marks : List Mark) : Type 0 where
  pub kept : (order : List ℕ) → list_all (keeps order) set ≡ true → keeps order marks ≡ true
  pub satisfied : (levels : List ℕ) → list_all (satisfies levels) set ≡ true → satisfies levels marks ≡ true

-- Of some terms without some of those that earlier ones imply: whatever terms stand before and behind them, a ranking keeps them
-- all where one keeps all, and what is kept of them is the same; they are among the whole; and the same hierarchies satisfy them.
pub record IsReduced (problem : Problem) (whole reduced : List Term) : Type 0 where
  pub hopeless : (before more : List Term)
      → no_ranking_keeps problem.constraints (map (condition_of problem) (before ++ (whole ++ more))) ≡ no_ranking_keeps problem.constraints (map (condition_of problem) (before ++ (reduced ++ more)))
  pub kept : (before more : List Term) → no_ranking_keeps problem.constraints (map (condition_of problem) (before ++ (whole ++ more))) ≡ true
      → kept_of (λ rest. no_ranking_keeps problem.constraints (map (condition_of problem) rest)) before (whole ++ more) ≡ kept_of (λ rest. no_ranking_keeps problem.constraints (map (condition_of problem) rest)) before (reduced ++ more)
  pub part : (p : Term → Bool) → list_all p whole ≡ true → list_all p reduced ≡ true
  pub satisfied : (levels : List ℕ) → list_all (satisfies levels) (map (condition_of problem) whole) ≡ list_all (satisfies levels) (map (condition_of problem) reduced)
