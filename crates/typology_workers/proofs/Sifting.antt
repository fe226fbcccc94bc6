-- The bits beside the places of an index.
use Rattle.std.proofs.Common.{◌≡◌, ℕ, zero, suc, ◌<◌, List, [], ◌∷◌, ◌++◌, length, set, refl, ap, arith, inl, inr, Option, Some, None, slice_get, length-set}
use Rattle.std.specs.Prelude.{bit_or, slice_index, slice_index_or}
use Rattle.std.proofs.lemmas.Bool.{cases_eq, cases_lt}
use Rattle.std.proofs.lemmas.List.{get_or_append_left, get_or_at, get_or-set_same, get_or-set_other, length-map, length_push, map-append}
use Rattle.std.proofs.lemmas.Option.{slice_get_within}
use Rattle.ot_theory.specs.Languages as theory
use Rattle.ot_theory.specs.Problems.{Problem}
use Rattle.refutation.specs.Asked.{Begins}
use Rattle.refutation.specs.Terms.{terms_in}
use Rattle.refutation.specs.Typologies.{certificates_of}
use Rattle.refutation.specs.declared.contradiction.Contradiction.{Contradiction}
use Rattle.refutation.specs.declared.term.Term.{Term}
use Rattle.search_deeds.specs.Sieved.{AreMarked, AreMarks, IsMarkOf, IsSieve}
use Rattle.search_deeds.proofs.Sieving.{AreMarks-none}
use Rattle.typology_workers.specs.Indexed.{IsIndex, RefutesAt, slot_for, slots_with}
use Rattle.typology_workers.proofs.Indexing.{slot_for-small}

-- where there are no places
pub marked-none : (certificates : List (List theory.Term)) (slots marks : List (List ℕ)) → length marks ≡ length slots → ((s : ℕ) → slice_index_or slots s [] ≡ []) → ((s : ℕ) → slice_index_or marks s [] ≡ []) → AreMarked certificates slots marks
marked-none certificates slots marks long none unmarked = record { long = long; each = λ b. rw (none b, unmarked b) (AreMarks-none certificates) }

-- one place more
marks-push : (certificates : List (List theory.Term)) (places marks : List ℕ) (k mark : ℕ) → IsMarkOf (slice_index_or certificates k []) mark → AreMarks certificates places marks → AreMarks certificates (places ++ k ∷ []) (marks ++ mark ∷ [])
marks-push certificates places marks k mark its h = record {
  long = omega (arith, h.long, length_push places k, length_push marks mark);
  each = λ j below. elim (cases_lt j (length places)) [
    | inl before ↦ rw (get_or_append_left places (k ∷ []) 0 j before, get_or_append_left marks (mark ∷ []) 0 j (omega (arith, h.long))) (h.each j before)
    | inr behind ↦
        let same : j ≡ length places = omega (arith, length_push places k) in
        rw (same, get_or_at places k [] 0 (length places) refl, get_or_at marks mark [] 0 (length places) h.long) its
  ];
}

marked-set : (certificates : List (List theory.Term)) (slots marks : List (List ℕ)) (s k mark : ℕ) → s < length slots → IsMarkOf (slice_index_or certificates k []) mark → AreMarked certificates slots marks
    → AreMarked certificates (set slots s (slice_index_or slots s [] ++ k ∷ [])) (set marks s (slice_index_or marks s [] ++ mark ∷ []))
marked-set certificates slots marks s k mark below its h =
    let place_list : List ℕ = slice_index_or slots s [] ++ k ∷ [] in
    let mark_list : List ℕ = slice_index_or marks s [] ++ mark ∷ [] in
    record {
      long = rw (length-set slots s place_list, length-set marks s mark_list) h.long;
      each = λ c. elim (cases_eq c s) [
        | inl same ↦ rw (same, get_or-set_same slots s place_list [] below, get_or-set_same marks s mark_list [] (omega (arith, h.long))) (marks-push certificates (slice_index_or slots s []) (slice_index_or marks s []) k mark its (h.each s))
        | inr other ↦ rw (get_or-set_other slots s c place_list [] other, get_or-set_other marks s c mark_list [] other) (h.each c)
      ];
    }

pub marked-more : (certificates : List (List theory.Term)) (last : Option Term) (slots marks : List (List ℕ)) (k mark : ℕ) → 1 < length slots → IsMarkOf (slice_index_or certificates k []) mark → AreMarked certificates slots marks
    → AreMarked certificates (slots_with last k slots) (slots_with last mark marks)
marked-more certificates None slots marks k mark some its h = h
marked-more certificates (Some term) slots marks k mark some its h =
    rw h.long (marked-set certificates slots marks (slot_for (length slots) term) k mark (slot_for-small (length slots) term some) its h)

-- the terms of the value at a place
pub certificate-at : (values : List Contradiction) (k : ℕ) (value : Contradiction) → slice_get values k ≡ Some value → slice_index_or (certificates_of values) k [] ≡ terms_in value.terms
certificate-at [] k value e = absurd (cc)
certificate-at (x ∷ xs) zero value e = let same : x ≡ value = cc in ap (λ (c : Contradiction). terms_in c.terms) same
certificate-at (x ∷ xs) (suc k) value e = certificate-at xs k value e

-- with more values behind
pub marked-grows : (problem : Problem) (slots marks : List (List ℕ)) (n : ℕ) (old new : List Contradiction) → IsIndex problem slots n old → AreMarked (certificates_of old) slots marks → Begins old new → AreMarked (certificates_of new) slots marks
marked-grows problem slots marks n old new h m b = record {
  long = m.long;
  each = λ s. record {
    long = (m.each s).long;
    each = λ k below.
        let g = h.genuine s (slice_index (slice_index_or slots s []) k) (k, below, refl) in
        let within = slice_get_within old (slice_index (slice_index_or slots s []) k) g.0 g.1 in
        rw (
          b.whole,
          map-append (λ (c : Contradiction). terms_in c.terms) old b.rest,
          get_or_append_left (certificates_of old) (certificates_of b.rest) [] (slice_index (slice_index_or slots s []) k) (omega (arith, within, length-map old (λ (c : Contradiction). terms_in c.terms))),
        ) ((m.each s).each k below);
  };
}

-- what refutes the prefix has no bits but its own
pub passes_sieve : (values : List Contradiction) (prefix places marks : List ℕ) (bits k : ℕ) → IsSieve (certificates_of values) prefix places marks bits → k < length places → RefutesAt values prefix (slice_index places k) → bit_or (slice_index marks k) bits ≡ bits
passes_sieve values prefix places marks bits k s below h = s.passed k below (rw (certificate-at values (slice_index places k) h.0 h.1) h.2)
