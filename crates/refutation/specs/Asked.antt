-- What some terms ask of a ranking, without terms that earlier ones imply.
use Rattle.std.specs.Prelude.{◌≡◌, List, ◌++◌, map, length, All}
use Rattle.ot_theory.specs.declared.Mark.{Mark}
use Rattle.ot_theory.specs.Problems.{Problem}
use Rattle.ot_theory.specs.Languages as theory
use Rattle.ot_theory.specs.Languages.{condition_of}
use Rattle.ot_theory.specs.Reductions.{IsReduced}
use Rattle.refutation.specs.Terms.{terms_in}
use Rattle.refutation.specs.declared.term.Term.{Term}

-- These are the terms of the whole without some of those that earlier ones imply, beside the conditions that they stand for.
pub record AreAsked (problem : Problem) (whole : List theory.Term) (terms : List Term) (conditions : List (List Mark)) : Type 0 where
  pub reduced : IsReduced problem whole (terms_in terms)
  pub widths : All (λ marks. length marks ≡ problem.constraints) conditions
  pub each : conditions ≡ map (condition_of problem) (terms_in terms)

-- The one list begins with the other one.
pub record Begins {X : Type 0} (front list : List X) : Type 0 where
  pub rest : List X
  pub whole : list ≡ front ++ rest
