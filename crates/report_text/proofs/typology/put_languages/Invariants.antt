-- the lines of the first k languages are written, and the classes of the last of them are kept
use Rattle.std.proofs.Common.{◌≡◌, ℕ, List, ◌++◌, take, flat_map}
use Rattle.std.specs.List.{enumerate_from}
use Rattle.refutation.specs.Typologies.{found_of}
use Rattle.refutation.specs.Prefixes.{class_numbers}
use Rattle.report_text.specs.Reports as reports
use Rattle.report_text.specs.Spelling.{each_behind_space}
use Rattle.report_text.proofs.typology.put_languages.Given as goal

abbrev pub language_line : ℕ × (List ℕ × List ℕ) → List ℕ
language_line (k, language) = reports.language_line k language

abbrev pub invariant-loop-k : goal.invariant-loop-k
invariant-loop-k l =
    (l.text ≡ l.initial.text ++ flat_map language_line (enumerate_from 1 (take l.k (found_of l.languages)))) × (l.kept ≡ each_behind_space (class_numbers l.before))
