-- The bits of choices: those of a certificate that refutes a prefix are among those of the prefix.
use Rattle.std.specs.Prelude.{◌≡◌, ℕ, ◌+◌, ◌*◌, ◌%◌, ◌^◌, ◌<◌, ◌≤◌, true, List, [], length, slice_index, slice_index_or, bit_or, All}
use Rattle.std.specs.Int.{bit_at}
use Rattle.ot_theory.specs.Languages.{Term, Loser, Given}
use Rattle.ot_theory.specs.Refutations.{refutes}

-- the bit of a class of an input: one of 64, which other choices may have too
unfoldable pub choice_bit : ℕ → ℕ → ℕ
choice_bit i a = 2 ^ ((i % 64 * 37 + a) % 64)

-- each bit of the one word is a bit of the other
pub record AreAmong (few many : ℕ) : Type 0 where
  pub each : (c : ℕ) → bit_at few c ≤ bit_at many c

-- The word has the bit of each choice of the prefix.
pub record HasBits (prefix : List ℕ) (bits : ℕ) : Type 0 where
  pub each : (i : ℕ) → i < length prefix → AreAmong (choice_bit i (slice_index prefix i)) bits

-- the bit of the choice that a term asks for, and none of a given pair
abbrev pub asked_bit : Term → ℕ
asked_bit (Loser i a b) = choice_bit i a
asked_bit (Given k) = 0

-- The word has no bits but those of the choices that the terms ask for.
pub record IsMarkOf (terms : List Term) (mark : ℕ) : Type 0 where
  pub least : (bits : ℕ) → All (λ term. AreAmong (asked_bit term) bits) terms → AreAmong mark bits

-- such a word for each of the certificates at these places
pub record AreMarks (certificates : List (List Term)) (places marks : List ℕ) : Type 0 where
  pub long : length marks ≡ length places
  pub each : (k : ℕ) → k < length places → IsMarkOf (slice_index_or certificates (slice_index places k) []) (slice_index marks k)

-- and that for each list of places
pub record AreMarked (certificates : List (List Term)) (places marks : List (List ℕ)) : Type 0 where
  pub long : length marks ≡ length places
  pub each : (b : ℕ) → AreMarks certificates (slice_index_or places b []) (slice_index_or marks b [])

-- Where a certificate at one of the places refutes the prefix, its bits are among these.
pub record IsSieve (certificates : List (List Term)) (prefix places marks : List ℕ) (bits : ℕ) : Type 0 where
  pub long : length marks ≡ length places
  pub passed : (k : ℕ) → k < length places → refutes (slice_index_or certificates (slice_index places k) []) prefix ≡ true → bit_or (slice_index marks k) bits ≡ bits
