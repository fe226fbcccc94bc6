-- How often cuts are judged, as the program counts it.
use Rattle.std.specs.Prelude.{◌≡◌, ◌≤◌, ℕ, ◌+◌, ◌-◌, ◌^◌, List, map, length, min, slice_index_or}
use Rattle.typology_core.specs.Learned.{of_length, times_judged, total_of}
use Rattle.typology_core.specs.declared.learning.Count.{Count}
use Rattle.typology_core.specs.declared.learning.Named.{Named}
use Rattle.typology_core.specs.declared.learning.Tally.{Tally}

abbrev pub named_of : List Named → List (ℕ × ℕ)
named_of named = map (λ certificate. (certificate.length, certificate.cuts)) named

-- how many cuts of a length name each certificate of that length
abbrev pub learns_of : ℕ → List Named → List ℕ
learns_of n named = map (λ certificate. certificate.1) (of_length n (named_of named))

-- how many of the certificates are of a length, and how many cuts name these
pub record IsTally (n : ℕ) (named : List (ℕ × ℕ)) (tally : Tally) : Type 0 where
  pub certificates : tally.certificates ≡ length (of_length n named)
  pub cuts : tally.cuts ≡ total_of (of_length n named)

-- of each length up to the longest
pub record AreTallies (longest : ℕ) (named : List (ℕ × ℕ)) (tallies : List Tally) : Type 0 where
  pub width : length tallies ≡ longest + 1
  pub each : (n : ℕ) (d : Tally) → n ≤ longest → IsTally n named (slice_index_or tallies n d)

-- The count begins with so many and has so many places; and then these were judged.
pub record IsCount (held places : ℕ) (times : List ℕ) (count : Count) : Type 0 where
  pub learns : count.learns ≡ min (held + times_judged places times) (2 ^ 64 - 1)
  pub left : count.left ≡ places - length times
