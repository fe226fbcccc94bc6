-- The stratum numbers of the constraints of a mask.
use Rattle.std.specs.Prelude.{◌≡◌, ℕ, List, slice_index}
use Rattle.std.specs.Int.{bit_at}

-- one of the constraints whose bits are set has this stratum number
pub record IsLevelOf (levels : List ℕ) (mask level : ℕ) : Type 0 where
  pub at : ℕ
  pub inside : bit_at mask at ≡ 1
  pub has : slice_index levels at ≡ level
