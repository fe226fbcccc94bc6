-- The bits of the certificates that refute a prefix are among its own.
use Rattle.std.proofs.Common.{◌≡◌, ℕ, ◌+◌, ◌<◌, List, [], ◌∷◌, ◌++◌, true, arith, refl, ◌∙◌, ap, subst, inl, inr, length, take, get_or, slice_index}
use Rattle.std.specs.Prelude.{All, bit_or, slice_index_or}
use Rattle.std.proofs.lemmas.Bool.{and_parts, cases_lt}
use Rattle.std.proofs.lemmas.List.{get_or_append_left, get_or_at, length_push, take_more}
use Rattle.std.proofs.lemmas.List.Elements.{All-nil, All-cons}
use Rattle.std.proofs.lemmas.Nat.Bits.{bit_at_or, bit_at-zero, same_from_bits}
use Rattle.ot_theory.specs.Languages.{Term, Loser, Given}
use Rattle.ot_theory.specs.Refutations.{refutes}
use Rattle.search_deeds.specs.Sieved.{asked_bit, choice_bit, AreAmong, HasBits, IsMarkOf, AreMarks, IsSieve}
use Rattle.search_deeds.proofs.Choices.{is_made, made_at, nothing}

-- ---- words among others
among-more : (few many bit : ℕ) → AreAmong few many → AreAmong few (bit_or many bit)
among-more few many bit h = record { each = λ c. omega (arith, h.each c, bit_at_or many bit c) }

among-new : (many bit : ℕ) → AreAmong bit (bit_or many bit)
among-new many bit = record { each = λ c. omega (arith, bit_at_or many bit c) }

among-both : (mark bit bits : ℕ) → AreAmong mark bits → AreAmong bit bits → AreAmong (bit_or mark bit) bits
among-both mark bit bits h g = record { each = λ c. omega (arith, h.each c, g.each c, bit_at_or mark bit c) }

among-none : (bits : ℕ) → AreAmong 0 bits
among-none bits = record { each = λ c. omega (arith, bit_at-zero c) }

absorbed : (few many : ℕ) → AreAmong few many → bit_or few many ≡ many
absorbed few many h = same_from_bits (bit_or few many) many (λ c. omega (arith, h.each c, bit_at_or few many c))

-- ---- the bits of a prefix
pub HasBits-none : HasBits [] 0
HasBits-none = record { each = λ i below. absurd (omega arith) }

pub HasBits-push : (prefix : List ℕ) (bits bit i a : ℕ) → length prefix ≡ i → bit ≡ choice_bit i a → HasBits prefix bits → HasBits (prefix ++ a ∷ []) (bit_or bits bit)
HasBits-push prefix bits bit i a long e h = record {
  each = λ j below. elim (cases_lt j (length prefix)) [
    | inl before ↦ rw (get_or_append_left prefix (a ∷ []) 0 j before) (among-more (choice_bit j (slice_index prefix j)) bits bit (h.each j before))
    | inr behind ↦
        let same : j ≡ i = omega (arith, length_push prefix a) in
        rw (same, get_or_at prefix a [] 0 i long, ← e) (among-new bits bit)
  ];
}

pub HasBits-more : (prefix : List ℕ) (bits bit i a d : ℕ) → i < length prefix → get_or prefix i d ≡ a → bit ≡ choice_bit i a → HasBits (take i prefix) bits → length (take i prefix) ≡ i → HasBits (take (i + 1) prefix) (bit_or bits bit)
HasBits-more prefix bits bit i a d below here e h long = rw (take_more prefix i d below, here) (HasBits-push (take i prefix) bits bit i a long e h)

-- ---- the bits that terms ask for
pub IsMarkOf-none : IsMarkOf [] 0
IsMarkOf-none = record { least = λ bits all. among-none bits }

pub IsMarkOf-more : (terms : List Term) (mark bit k : ℕ) (term : Term) → k < length terms → get_or terms k nothing ≡ term → bit ≡ asked_bit term → IsMarkOf (take k terms) mark → IsMarkOf (take (k + 1) terms) (bit_or mark bit)
IsMarkOf-more terms mark bit k term below here e h = record {
  least = λ bits all.
      let front : List Term = take k terms in
      let more : take (k + 1) terms ≡ front ++ term ∷ [] = take_more terms k nothing below ∙ ap (λ (t : Term). front ++ t ∷ []) here in
      let those : All (λ t. AreAmong (asked_bit t) bits) (front ++ term ∷ []) = rw more at all in
      among-both mark bit bits
      (h.least bits (λ j d b. rw (get_or_append_left front (term ∷ []) d j b) at (those j d (omega (arith, length_push front term)))))
      (rw (get_or_at front term [] nothing (length front) refl, ← e) at (those (length front) nothing (omega (arith, length_push front term))));
}

made-bits : (prefix : List ℕ) (bits : ℕ) (terms : List Term) → HasBits prefix bits → refutes terms prefix ≡ true → All (λ term. AreAmong (asked_bit term) bits) terms
made-bits prefix bits [] has h = All-nil (λ term. AreAmong (asked_bit term) bits)
made-bits prefix bits (t ∷ terms) has h =
    let parts = and_parts (is_made prefix t) (refutes terms prefix) h in
    All-cons (λ term. AreAmong (asked_bit term) bits) t terms (here t parts.0) (made-bits prefix bits terms has parts.1)
  where
    here : (t : Term) → is_made prefix t ≡ true → AreAmong (asked_bit t) bits
    here (Loser i a b) made = let at = made_at prefix i a made in subst (λ (c : ℕ). AreAmong (choice_bit i c) bits) at.1 (has.each i at.0)
    here (Given k) made = among-none bits

-- ---- the words beside the places of certificates
pub IsSieve-marks : (certificates : List (List Term)) (prefix places marks : List ℕ) (bits : ℕ) → AreMarks certificates places marks → HasBits prefix bits → IsSieve certificates prefix places marks bits
IsSieve-marks certificates prefix places marks bits h has = record {
  long = h.long;
  passed = λ k below made. absorbed (slice_index marks k) bits ((h.each k below).least bits (made-bits prefix bits (slice_index_or certificates (slice_index places k) []) has made));
}

pub AreMarks-none : (certificates : List (List Term)) → AreMarks certificates [] []
AreMarks-none certificates = record { long = refl; each = λ k below. absurd (omega arith) }
