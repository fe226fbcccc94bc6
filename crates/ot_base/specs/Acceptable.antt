-- What the work on a tableau asks of it: it is within the limits, and not empty.
use Rattle.std.specs.Prelude.{◌≡◌, ℕ, ◌≤◌, All, length, sum_by}
use Rattle.erc_vectors.specs.declared.condition.TheConstants.{LIMIT}
use Rattle.ot_base.specs.declared.tableau.Tableau.{Tableau}
use Rattle.ot_base.specs.declared.tableau.InputRows.{InputRows}
use Rattle.ot_base.specs.declared.tableau.CandidateRow.{CandidateRow}
use Rattle.ot_base.specs.declared.limits.TheConstants.{INPUT_LIMIT, CANDIDATE_LIMIT, ROW_LIMIT, VIOLATION_LIMIT}

-- a candidate of n constraints: a violation for each, none above the limit
pub record IsRow (n : ℕ) (row : CandidateRow) : Type 0 where
  pub width : length row.violations ≡ n
  pub bounded : All (λ violation. violation ≤ VIOLATION_LIMIT) row.violations

-- an input of n constraints: at least one candidate, and no more than the limit
pub record AreRows (n : ℕ) (input : InputRows) : Type 0 where
  pub some_candidate : 1 ≤ length input.candidates
  pub few_candidates : length input.candidates ≤ CANDIDATE_LIMIT
  pub widths : All (IsRow n) input.candidates

-- within the limits, of equal widths, and not empty
pub record IsAcceptable (tableau : Tableau) : Type 0 where
  pub some_name : 1 ≤ length tableau.names
  pub few_names : length tableau.names ≤ LIMIT
  pub abbreviated : length tableau.abbrevs ≡ length tableau.names
  pub some_input : 1 ≤ length tableau.inputs
  pub few_inputs : length tableau.inputs ≤ INPUT_LIMIT
  pub few_rows : sum_by (λ input. length input.candidates) tableau.inputs ≤ ROW_LIMIT
  pub rows : All (AreRows (length tableau.names)) tableau.inputs
