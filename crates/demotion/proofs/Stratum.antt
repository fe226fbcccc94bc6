-- The constraints of a stratum, written behind those that are placed already.
use Rattle.std.proofs.Common.{◌≡◌, ◌≢◌, ℕ, ◌+◌, ◌<◌, ◌≤◌, List, [], ◌∷◌, ◌++◌, map, take, set, length, slice_index, arith, sym, ◌∙◌, ap, refl, append_assoc}
use Rattle.std.proofs.lemmas.Bool.{eq-eqb, ne_eqb}
use Rattle.std.proofs.lemmas.List.{append-nil, take_more_set, map-append, length-append}
use Rattle.erc_vectors.specs.declared.condition.ConId.{ConId}
use Rattle.ot_theory.specs.Hierarchies.{in_stratum}
use Rattle.ot_theory.proofs.Orders.{in_stratum_below, in_stratum_below-more, length-in_stratum_below}

-- Those of the stratum among the first k constraints are written, up to the place `end`.
pub record IsWrittenBelow (levels : List ℕ) (s : ℕ) (old : List ConId) (placed k end : ℕ) (new : List ConId) : Type 0 where
  pub count : end ≡ placed + length (in_stratum_below levels s k)
  pub numbers : map (λ c. c.0) (take end new) ≡ map (λ c. c.0) (take placed old) ++ in_stratum_below levels s k

below-in : (levels : List ℕ) (s k : ℕ) → slice_index levels k ≡ s → in_stratum_below levels s (k + 1) ≡ in_stratum_below levels s k ++ k ∷ []
below-in levels s k here = rw (in_stratum_below-more levels s k, eq-eqb (slice_index levels k) s here) refl

below-out : (levels : List ℕ) (s k : ℕ) → slice_index levels k ≢ s → in_stratum_below levels s (k + 1) ≡ in_stratum_below levels s k
below-out levels s k other = rw (in_stratum_below-more levels s k, ne_eqb (slice_index levels k) s other) (append-nil (in_stratum_below levels s k))

-- there is room for one more of the stratum
pub room-below : (levels : List ℕ) (s : ℕ) (old : List ConId) (placed k end : ℕ) (new : List ConId) → slice_index levels k ≡ s → k < length levels → placed + length (in_stratum levels s) ≤ length new → IsWrittenBelow levels s old placed k end new → end < length new
room-below levels s old placed k end new here below room h =
    let more : length (in_stratum_below levels s k) + 1 ≡ length (in_stratum_below levels s (k + 1)) = sym (ap (λ (l : List ℕ). length l) (below-in levels s k here) ∙ length-append (in_stratum_below levels s k) (k ∷ [])) in
    omega (arith, more, length-in_stratum_below levels s (k + 1) (length levels) (omega arith), h.count)

pub IsWrittenBelow-in : (levels : List ℕ) (s : ℕ) (old : List ConId) (placed k end : ℕ) (new : List ConId) (id : ConId) → slice_index levels k ≡ s → id.0 ≡ k → end < length new → IsWrittenBelow levels s old placed k end new → IsWrittenBelow levels s old placed (k + 1) (end + 1) (set new end id)
IsWrittenBelow-in levels s old placed k end new id here e room h = record {
  count = rw (below-in levels s k here) (omega (arith, length-append (in_stratum_below levels s k) (k ∷ []), h.count));
  numbers = rw (below-in levels s k here, take_more_set new end id room, map-append (λ (c : ConId). c.0) (take end new) (id ∷ []), h.numbers, e) (append_assoc (map (λ (c : ConId). c.0) (take placed old)) (in_stratum_below levels s k) (k ∷ []));
}

pub IsWrittenBelow-out : (levels : List ℕ) (s : ℕ) (old : List ConId) (placed k end : ℕ) (new : List ConId) → slice_index levels k ≢ s → IsWrittenBelow levels s old placed k end new → IsWrittenBelow levels s old placed (k + 1) end new
IsWrittenBelow-out levels s old placed k end new other h = record { count = rw (below-out levels s k other) h.count; numbers = rw (below-out levels s k other) h.numbers }
