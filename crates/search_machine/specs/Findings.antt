-- What demotion finds of a prefix.
use Rattle.std.specs.Prelude.{◌≡◌, ◌==◌, ℕ, true, false, List, length, if◌then◌else◌}
use Rattle.ot_theory.specs.Hierarchies.{IsLeastHierarchy}
use Rattle.ot_theory.specs.Problems.{Problem}
use Rattle.ot_theory.specs.Languages.{conditions_of, refuted, terms_of}
use Rattle.ot_theory.specs.Refutations.{certificate_of, is_contradiction, refutes}
use Rattle.refutation.specs.Terms.{terms_in}
use Rattle.search_deeds.specs.declared.deed.Fate.{Fate}
use Rattle.search_deeds.specs.declared.deed.Fate.TheVariants as fate
use Rattle.refutation.specs.declared.judging.Finding.{Finding}
use Rattle.refutation.specs.declared.judging.Finding.TheVariants.{Holds, Refuted}

-- A prefix that holds has the least hierarchy of its conditions, a refuted one its certificate, which is a
-- contradiction that refutes it.
abbrev pub IsJudged : Problem → List ℕ → Finding → Type 0
IsJudged problem prefix (Holds levels) = (refuted problem prefix ≡ false) × IsLeastHierarchy problem.constraints (conditions_of problem prefix) levels
IsJudged problem prefix (Refuted found) =
    (refuted problem prefix ≡ true) × (terms_in found.terms ≡ certificate_of problem (terms_of problem prefix))
    × (is_contradiction problem (terms_in found.terms) ≡ true) × (refutes (terms_in found.terms) prefix ≡ true)

-- A refuted prefix is cut off. One that holds is a language where it is a full choice, and is opened where it is shorter.
abbrev pub fate_for : Problem → List ℕ → Finding → Fate
fate_for problem prefix (Holds levels) = if length prefix == length problem.inputs then fate.Language levels else fate.Opened
fate_for problem prefix (Refuted found) = fate.Cut found
