-- A candidate that is given without a file.
use Rattle.std.specs.Prelude.{ℕ, List}
use denote.Ref.{Bor}
use Rattle.ot_base.specs.declared.tableau.CandidateRow.{CandidateRow}

-- the candidate of this text, count and violations, in line 3
abbrev pub candidate_of : List ℕ → ℕ → List ℕ → CandidateRow
candidate_of text count violations = record { text = text; count = count; violations = violations; line = 3 }

-- the same of a text, a count and violations that stand together
abbrev pub candidate_given : Bor (List ℕ) × ℕ × List ℕ → CandidateRow
candidate_given row = candidate_of row.0.now row.1 row.2
