-- Pairs of constraints as bits: for each constraint a mask of those that stand below it.
use Rattle.std.specs.Prelude.{◌≡◌, ℕ, ◌<◌, Bool, not, ◌&&◌, List, map, filter, slice_index}
use Rattle.std.specs.List.{list_any}
use Rattle.ot_theory.specs.declared.Mark.{Mark}
use Rattle.ot_theory.specs.Rankings.{numbers_below}
use Rattle.demotion.specs.Placed.{has_bit}
use Rattle.erc_vectors.specs.declared.cover.Cover.{Cover}
use Rattle.hasse_listing.specs.Covers.{necessarily_above, pair_of}

-- The bits of the mask are the constraints necessarily below c.
abbrev pub AreBelow : ℕ → List (List Mark) → ℕ → ℕ → Type 0
AreBelow n set c mask = (d : ℕ) → d < n → has_bit mask d ≡ necessarily_above n set c d

-- By the mask of each constraint, d stands below c, and above no other that does.
abbrev pub is_covered : ℕ → List ℕ → ℕ → ℕ → Bool
is_covered n masks c d =
    has_bit (slice_index masks c) d && not (list_any (λ k. has_bit (slice_index masks c) k && has_bit (slice_index masks k) d) (numbers_below n))

-- the pairs of c and the constraints that are bits of the mask, ascending
abbrev pub pairs_in : ℕ → ℕ → ℕ → List Cover
pairs_in n c mask = map (pair_of c) (filter (has_bit mask) (numbers_below n))
