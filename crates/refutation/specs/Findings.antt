-- What demotion of their conditions finds of terms.
use Rattle.std.specs.Prelude.{◌≡◌, true, false, List, map}
use Rattle.ot_theory.specs.Hierarchies.{IsLeastHierarchy}
use Rattle.ot_theory.specs.Problems.{Problem}
use Rattle.ot_theory.specs.Languages.{Term, condition_of}
use Rattle.ot_theory.specs.Refutations.{certificate_of, is_contradiction, no_ranking_keeps, EachIsNeeded}
use Rattle.refutation.specs.Terms.{terms_in}
use Rattle.refutation.specs.declared.judging.Finding.{Finding}
use Rattle.refutation.specs.declared.judging.Finding.TheVariants.{Holds, Refuted}

-- Terms whose conditions some ranking keeps have the least hierarchy of these. Others have their certificate, which is a contradiction
-- that needs each of its terms.
abbrev pub AreJudged : Problem → List Term → Finding → Type 0
AreJudged problem terms (Holds levels) =
    (no_ranking_keeps problem.constraints (map (condition_of problem) terms) ≡ false)
    × IsLeastHierarchy problem.constraints (map (condition_of problem) terms) levels
AreJudged problem terms (Refuted found) =
    (no_ranking_keeps problem.constraints (map (condition_of problem) terms) ≡ true) × (terms_in found.terms ≡ certificate_of problem terms)
    × (is_contradiction problem (terms_in found.terms) ≡ true) × EachIsNeeded problem (terms_in found.terms)
