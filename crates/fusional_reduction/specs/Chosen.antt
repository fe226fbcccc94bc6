-- Conditions by the masks of their W's.
use Rattle.std.specs.Prelude.{◌≡◌, ℕ, ◌<◌, ◌==◌, Bool, not, List, bit_and, if◌then◌else◌}
use Rattle.std.specs.List.{list_all}
use Rattle.std.specs.Int.{bit_at, bit_not, w64}
use Rattle.ot_theory.specs.declared.Mark.{Mark}
use Rattle.ot_theory.specs.Conditions.{mark_at, is_win}
use Rattle.erc_vectors.specs.Masks.{mask_of}

-- whether a condition has W at some constraint of the mask
unfoldable pub wins_in : ℕ → List Mark → Bool
wins_in mask marks = not (bit_and (mask_of is_win marks) mask == 0)

-- whether a condition has no W at some constraint of the mask
unfoldable pub lacks_in : ℕ → List Mark → Bool
lacks_in mask marks = not (bit_and mask (bit_not w64 (mask_of is_win marks)) == 0)

-- Bit c of the mask is set exactly where each condition has W at c.
abbrev pub IsShared : List (List Mark) → ℕ → Type 0
IsShared set mask = (c : ℕ) → c < 64 → bit_at mask c ≡ (if list_all (λ marks. is_win (mark_at marks c)) set then 1 else 0)
