use Rattle.ot_theory.proofs.ContradictoryParts.{contradictory-part, contradictory-some}
use Rattle.ot_theory.proofs.Hopeless.{hopeless-fused}
use Rattle.std.specs.Prelude.{filter}
use Rattle.ot_theory.proofs.Sets.{no_ranking_keeps-more, IsPart-filter}
use Rattle.ot_theory.proofs.laws.inconsistent_by_fusion.Goals as goal

pub returns : goal.returns
returns c = λ n set. (
  λ none. let part = contradictory-part n set none in record { test = part.test; some = contradictory-some n (filter part.test set) part.contradictory; contradictory = part.contradictory },
  λ part. no_ranking_keeps-more n (filter part.test set) set (IsPart-filter part.test set) (hopeless-fused n (filter part.test set) part.contradictory),
)
