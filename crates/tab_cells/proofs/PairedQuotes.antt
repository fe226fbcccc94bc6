-- Pairs of quotes in a text.
use Rattle.std.proofs.Common.{◌≡◌, ℕ, zero, suc, ◌+◌, ◌<◌, false, true, ◌==◌, ◌&&◌, ◌⊎◌, List, [], ◌∷◌, ◌++◌, append_assoc, length, slice_index, arith, inl, inr, ap, refl, sym, None, Some}
use Rattle.std.specs.Prelude.{Option, is_some}
use Rattle.std.specs.List.{list_all}
use Rattle.std.proofs.lemmas.Bool.Decides.{eqb_tells}
use Rattle.memchr.specs.Find.{OccursAt, FindsNeedle}
use Rattle.tab_cells.specs.Cells.{single_quotes, after_quote, has_pair, is_space}

pair_tells : (c d : ℕ) → ((((c == 34) && (d == 34)) ≡ true) × (c ≡ 34) × (d ≡ 34)) ⊎ ((((c == 34) && (d == 34)) ≡ false) × (c ≡ 34 → d ≡ 34 → ⊥))
pair_tells c d = elim (eqb_tells c 34) [
  | inl first ↦ elim (eqb_tells d 34) [
    | inl second ↦ inl (rw (first.0, second.0) refl, first.1, second.1)
    | inr other ↦ inr (rw (first.0, other.0) refl, λ a b. other.1 b)
  ]
  | inr other ↦ inr (rw other.0 refl, λ a b. other.1 a)
]

begins : (rest : List ℕ) (j : ℕ) → j < 2 → slice_index (34 ∷ 34 ∷ rest) (0 + j) ≡ slice_index (34 ∷ 34 ∷ []) j
begins rest zero low = refl
begins rest (suc zero) low = refl
begins rest (suc (suc j)) low = absurd (omega arith)

OccursAt-first : (c d : ℕ) (rest : List ℕ) → c ≡ 34 → d ≡ 34 → OccursAt (c ∷ d ∷ rest) (34 ∷ 34 ∷ []) 0
OccursAt-first c d rest a b = record { fits = omega arith; reads = rw (a, b) (begins rest) }

OccursAt-later : (c : ℕ) (text : List ℕ) (place : ℕ) → OccursAt text (34 ∷ 34 ∷ []) place → OccursAt (c ∷ text) (34 ∷ 34 ∷ []) (suc place)
OccursAt-later c text place found = record {
  fits = omega (arith, found.fits);
  reads = λ j low. let next : suc place + j ≡ suc (place + j) = omega arith in rw next (found.reads j low);
}

has_pair-occurs : (text : List ℕ) (place : ℕ) → OccursAt text (34 ∷ 34 ∷ []) place → has_pair text ≡ true
has_pair-occurs [] place found = absurd (omega (arith, found.fits))
has_pair-occurs (c ∷ []) place found = absurd (omega (arith, found.fits))
has_pair-occurs (c ∷ d ∷ rest) zero found =
    let first : c ≡ 34 = found.reads 0 (omega arith) in
    let second : d ≡ 34 = found.reads 1 (omega arith) in
    rw (first, second) refl
has_pair-occurs (c ∷ d ∷ rest) (suc place) found =
    let earlier : OccursAt (d ∷ rest) (34 ∷ 34 ∷ []) place = record {
      fits = omega (arith, found.fits);
      reads = λ j low. let next : suc place + j ≡ suc (place + j) = omega arith in rw next at (found.reads j low);
    } in
    elim (pair_tells c d) [ inl pair ↦ rw pair.0 refl | inr other ↦ rw other.0 (has_pair-occurs (d ∷ rest) place earlier) ]

has_pair-nowhere : (text : List ℕ) → ((place : ℕ) → ¬ OccursAt text (34 ∷ 34 ∷ []) place) → has_pair text ≡ false
has_pair-nowhere [] none = refl
has_pair-nowhere (c ∷ []) none = refl
has_pair-nowhere (c ∷ d ∷ rest) none = elim (pair_tells c d) [
  | inl pair ↦ absurd (none 0 (OccursAt-first c d rest pair.1 pair.2))
  | inr other ↦ rw other.0 (has_pair-nowhere (d ∷ rest) (λ place found. none (suc place) (OccursAt-later c (d ∷ rest) place found)))
]

-- two quotes stand side by side where they occur
pub has_pair-found : (text : List ℕ) (place : Option ℕ) → FindsNeedle text (34 ∷ 34 ∷ []) 0 place → is_some place ≡ has_pair text
has_pair-found text None none = sym (has_pair-nowhere text (λ place found. none place (omega arith) (omega (arith, found.fits)) found))
has_pair-found text (Some place) found = sym (has_pair-occurs text place found.1)

-- the first byte stays, and what follows it, or the pair, is made single in turn
pub single_quotes_step : (made text : List ℕ) → 0 < length text → (made ++ slice_index text 0 ∷ []) ++ single_quotes (after_quote text) ≡ made ++ single_quotes text
single_quotes_step made [] some = absurd (omega arith)
single_quotes_step made (c ∷ []) some = rw append_assoc refl
single_quotes_step made (c ∷ d ∷ rest) some = rw append_assoc (elim (pair_tells c d) [ inl pair ↦ rw (pair.0, pair.1) refl | inr other ↦ rw other.0 refl ])

-- a text without a pair stays as it is
pub single_quotes-same : (text : List ℕ) → has_pair text ≡ false → single_quotes text ≡ text
single_quotes-same [] none = refl
single_quotes-same (c ∷ []) none = refl
single_quotes-same (c ∷ d ∷ rest) none = elim (pair_tells c d) [
  | inl pair ↦ absurd (let e = rw pair.0 at none in cc)
  | inr other ↦ rw other.0 (ap (λ text. c ∷ text) (single_quotes-same (d ∷ rest) (rw other.0 at none)))
]

-- spaces alone come from spaces alone
pub all_spaces-single_quotes : (text : List ℕ) → list_all is_space (single_quotes text) ≡ list_all is_space text
all_spaces-single_quotes [] = refl
all_spaces-single_quotes (c ∷ []) = refl
all_spaces-single_quotes (c ∷ d ∷ rest) = elim (pair_tells c d) [
  | inl pair ↦ rw (pair.0, pair.1) refl
  | inr other ↦ rw other.0 (ap (λ b. is_space c && b) (all_spaces-single_quotes (d ∷ rest)))
]
