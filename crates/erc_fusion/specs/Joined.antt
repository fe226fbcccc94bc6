-- The masks of several conditions together.
use Rattle.std.specs.Prelude.{◌≡◌, ℕ, Bool, List, if◌then◌else◌}
use Rattle.std.specs.List.{list_any}
use Rattle.std.specs.Int.{bit_at}
use Rattle.ot_theory.specs.declared.Mark.{Mark}
use Rattle.ot_theory.specs.Conditions.{mark_at}

-- Bit c of the mask is set exactly where a mark of c in some condition passes the test.
abbrev pub IsJoined : (Mark → Bool) → List (List Mark) → ℕ → Type 0
IsJoined test set mask = (c : ℕ) → bit_at mask c ≡ (if list_any (λ marks. test (mark_at marks c)) set then 1 else 0)
