-- One row more, where the last input is known.
use Rattle.std.proofs.Common.{◌≡◌, ℕ, List, [], ◌∷◌, ◌++◌, true, false, ap, refl}
use Rattle.ot_base.specs.declared.tableau.InputRows.{InputRows}
use Rattle.tableau_file.specs.Rows.{cell, candidate_of, continues, with_row}

pub with_row-continued : (n : ℕ) (inputs : List InputRows) (last : InputRows) (row : ℕ × List (List ℕ)) → continues last row.1 ≡ true
    → inputs ++ record last { candidates = last.candidates ++ candidate_of n row ∷ [] } ∷ [] ≡ with_row n (inputs ++ last ∷ []) row
with_row-continued n [] last row e = rw e refl
with_row-continued n (input ∷ []) last row e = ap (λ inputs. input ∷ inputs) (with_row-continued n [] last row e)
with_row-continued n (input ∷ next ∷ inputs) last row e = ap (λ inputs. input ∷ inputs) (with_row-continued n (next ∷ inputs) last row e)

pub with_row-begun : (n : ℕ) (inputs : List InputRows) (last : InputRows) (row : ℕ × List (List ℕ)) → continues last row.1 ≡ false
    → (inputs ++ last ∷ []) ++ record { text = cell row.1 0; candidates = candidate_of n row ∷ [] } ∷ [] ≡ with_row n (inputs ++ last ∷ []) row
with_row-begun n [] last row e = rw e refl
with_row-begun n (input ∷ []) last row e = ap (λ inputs. input ∷ inputs) (with_row-begun n [] last row e)
with_row-begun n (input ∷ next ∷ inputs) last row e = ap (λ inputs. input ∷ inputs) (with_row-begun n (next ∷ inputs) last row e)
