-- The constraints that are placed, and those that are blocked, as bits of a mask.
use Rattle.std.specs.Prelude.{ℕ, Bool, List, map, ◌==◌}
use Rattle.std.specs.Int.{bit_at}
use Rattle.ot_theory.specs.Rankings.{numbers_below}

-- 1 for each constraint whose bit is set, and 0 for the others
abbrev pub levels_of : ℕ → List ℕ
levels_of mask = map (bit_at mask) (numbers_below 64)

-- whether the bit of a constraint is set
abbrev pub has_bit : ℕ → ℕ → Bool
has_bit mask c = bit_at mask c == 1
