-- The bit planes of a profile: each of the lowest bits of its violations, over all constraints, as a mask.
use Rattle.std.specs.Prelude.{◌≡◌, ℕ, ◌+◌, ◌*◌, ◌%◌, ◌^◌, ◌==◌, List, Bool, map, nat_lt, slice_index, if◌then◌else◌}
use Rattle.std.specs.Int.{bit_at}
use Rattle.std.specs.Simd.Lanes.{mask_l}
use Rattle.violation_profiles.specs.declared.classes.Class.{Class}
use Rattle.violation_profiles.specs.declared.planes.Planes.{Planes}

-- whether bit k of a number is set
abbrev pub has_bit : ℕ → ℕ → Bool
has_bit k n = bit_at n k == 1

-- whether a number has more bits than there are planes
abbrev pub is_large : ℕ → Bool
is_large n = nat_lt 7 n

-- the constraints whose violations pass a test
abbrev pub plane : (ℕ → Bool) → List ℕ → ℕ
plane test profile = mask_l (map test profile)

abbrev pub planes_of : List ℕ → Planes
planes_of profile = record { ones = plane (has_bit 0) profile; twos = plane (has_bit 1) profile; fours = plane (has_bit 2) profile; large = plane is_large profile }

-- The constraints at which the one profile has fewer violations than the other, by their k lowest bits.
abbrev pub AreFewer : ℕ → List ℕ → List ℕ → ℕ → Type 0
AreFewer k xs ys mask = (c : ℕ) → bit_at mask c ≡ (if nat_lt (slice_index xs c % 2 ^ k) (slice_index ys c % 2 ^ k) then 1 else 0)

-- A number for planes, the same for equal ones.
abbrev pub key_in : Planes → ℕ
key_in planes = ((planes.ones + planes.twos * 11400714819323198485 % 2 ^ 64) % 2 ^ 64 + planes.fours * 15485907386658061715 % 2 ^ 64) % 2 ^ 64

-- the planes that stand beside the profile of a class are its own
abbrev pub HasPlanes : Class → Type 0
HasPlanes class = class.planes ≡ planes_of class.profile
