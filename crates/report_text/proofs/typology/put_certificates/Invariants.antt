-- the lines of the first k certificates are written
use Rattle.std.proofs.Common.{◌≡◌, ℕ, List, ◌++◌, take, flat_map}
use Rattle.std.specs.List.{enumerate_from}
use Rattle.ot_theory.specs.Languages.{Term}
use Rattle.ot_theory.specs.Problems.{Problem}
use Rattle.refutation.specs.Typologies.{certificates_of}
use Rattle.report_text.specs.Reports as reports
use Rattle.report_text.proofs.typology.put_certificates.Given as goal

abbrev pub certificate_line : Problem → ℕ × List Term → List ℕ
certificate_line problem (k, list) = reports.certificate_line problem k list

abbrev pub invariant-loop-k : goal.invariant-loop-k
invariant-loop-k l = l.text ≡ l.initial.text ++ flat_map (certificate_line l.p) (enumerate_from 1 (take l.k (certificates_of l.certificates)))
