-- The lines of the first cuts.
use Rattle.std.proofs.Common.{◌≡◌, ℕ, ◌+◌, ◌<◌, List, ◌++◌, length, get_or, take, map, flat_map, append_assoc}
use Rattle.std.specs.List.{enumerate_from}
use Rattle.refutation.specs.Typologies.{cuts_of}
use Rattle.refutation.specs.declared.typology.Cut.{Cut}
use Rattle.report_text.specs.Reports as reports
use Rattle.report_text.proofs.Grown.{numbered_parts_more}

abbrev pub cut_line : ℕ × (List ℕ × ℕ) → List ℕ
cut_line (k, cut) = reports.cut_line k cut

abbrev pub shown : Cut → List ℕ × ℕ
shown cut = (cut.prefix, cut.certificate)

abbrev pub first_lines : List Cut → ℕ → List ℕ
first_lines cuts k = flat_map cut_line (enumerate_from 1 (take k (cuts_of cuts)))

-- one cut more
pub line-more : (start text new : List ℕ) (cuts : List Cut) (k : ℕ) (cut : Cut) → k < length cuts → cut ≡ get_or cuts k cut → text ≡ start ++ first_lines cuts k → new ≡ text ++ cut_line (k + 1, shown cut) → new ≡ start ++ first_lines cuts (k + 1)
line-more start text new cuts k cut below here e grown =
    rw (numbered_parts_more cut_line shown cuts k cut below here, grown, e) (append_assoc start (flat_map cut_line (enumerate_from 1 (take k (map shown cuts)))) (cut_line (k + 1, shown cut)))
