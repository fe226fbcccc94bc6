-- the lines of the conditions of the first k terms are written
use Rattle.std.proofs.Common.{◌≡◌, ℕ, List, ◌++◌, take, flat_map}
use Rattle.std.specs.List.{enumerate_from}
use Rattle.ot_theory.specs.Languages.{Term}
use Rattle.ot_theory.specs.Problems.{Problem}
use Rattle.refutation.specs.Terms.{terms_in}
use Rattle.report_text.specs.Listings as listings
use Rattle.report_text.proofs.bases.put_conditions.Given as goal

abbrev pub condition_line : Problem → ℕ × Term → List ℕ
condition_line problem (k, term) = listings.condition_line problem k term

abbrev pub invariant-loop-k : goal.invariant-loop-k
invariant-loop-k l = l.text ≡ l.initial.text ++ flat_map (condition_line l.p) (enumerate_from 1 (take l.k (terms_in l.terms)))
