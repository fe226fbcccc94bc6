-- Certificates as bits, 64 in a block: those that refute a prefix have their bits in each word that its classes take.
use Rattle.std.specs.Prelude.{◌≡◌, ℕ, ◌*◌, ◌/◌, ◌%◌, ◌<◌, ◌≤◌, true, List, [], length, slice_index, slice_index_or, All}
use Rattle.std.specs.Int.{bit_at}
use Rattle.ot_theory.specs.Languages.{Term}
use Rattle.ot_theory.specs.Refutations.{refutes}
use Rattle.search_deeds.specs.declared.blocks.Block.{Block}
use Rattle.search_deeds.specs.declared.blocks.Row.{Row}

-- The word that the class of the prefix at the input takes has the bit. Where the prefix is too short there is nothing to look at.
pub record IsAdmittedBy (row : Row) (prefix : List ℕ) (b : ℕ) : Type 0 where
  pub at : row.input.0 < length prefix → bit_at (slice_index row.words (slice_index prefix row.input.0 % 8)) b ≡ 1

-- There is such a certificate, and each row admits it.
pub record IsAdmitted (block : Block) (prefix : List ℕ) (b : ℕ) : Type 0 where
  pub present : bit_at block.present b ≡ 1
  pub rows : All (λ row. IsAdmittedBy row prefix b) block.rows.items

-- the same of the certificate at place k, which has a bit of the block k / 64
pub record IsAdmittedAt (blocks : List Block) (prefix : List ℕ) (k : ℕ) : Type 0 where
  pub each : (d : Block) → IsAdmitted (slice_index_or blocks (k / 64) d) prefix (k % 64)

-- There is a bit for each of the certificates at these places, and it is admitted for all prefixes that the certificate refutes.
pub record AreBlocks (certificates : List (List Term)) (places : List ℕ) (blocks : List Block) : Type 0 where
  pub room : length places ≤ length blocks * 64
  pub each : (k : ℕ) → k < length places → (prefix : List ℕ) → refutes (slice_index_or certificates (slice_index places k) []) prefix ≡ true → IsAdmittedAt blocks prefix k

-- There are bits enough for each list of places.
pub record HaveRoom (places : List (List ℕ)) (blocks : List (List Block)) : Type 0 where
  pub long : length blocks ≡ length places
  pub each : (b : ℕ) → length (slice_index_or places b []) ≤ length (slice_index_or blocks b []) * 64

-- such blocks for each list of places
pub record AreBlocked (certificates : List (List Term)) (places : List (List ℕ)) (blocks : List (List Block)) : Type 0 where
  pub long : length blocks ≡ length places
  pub each : (b : ℕ) → AreBlocks certificates (slice_index_or places b []) (slice_index_or blocks b [])
