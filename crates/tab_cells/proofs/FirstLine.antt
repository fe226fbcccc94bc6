-- The first line of a file, and what stands after its end.
use Rattle.std.proofs.Common.{◌≡◌, ℕ, zero, suc, ◌+◌, ◌<◌, ◌≤◌, Bool, false, true, ◌==◌, List, [], ◌∷◌, length, take, drop, arith, inl, inr, ap, refl, sym, subst, ◌∙◌}
use Rattle.std.specs.List.{onto_first}
use Rattle.std.proofs.lemmas.Bool.Decides.{eqb_tells}
use Rattle.memchr.specs.Find.{Passes, Nowhere, is_byte2}
use Rattle.tab_cells.specs.Lines.{lines_of, with_line_feeds, fed_lines, after_end}

abbrev is_end : ℕ → Bool
is_end = is_byte2 10 13

fails : (b : Bool) → ¬ (b ≡ true) → b ≡ false
fails true h = absurd (h refl)
fails false h = refl

plain_step : (c : ℕ) (rest : List ℕ) → (c == 10) ≡ false → (c == 13) ≡ false → lines_of (c ∷ rest) ≡ onto_first c (lines_of rest)
unfolding lines_of
plain_step c [] a b = rw (b, a) refl
plain_step c (d ∷ rest) a b = rw (b, a) refl

-- a byte that ends no line stands first in the first line
lines_of-plain : (c : ℕ) (rest : List ℕ) → is_end c ≡ false → lines_of (c ∷ rest) ≡ onto_first c (lines_of rest)
lines_of-plain c rest plain = elim (eqb_tells c 10) [
  | inl feed ↦ absurd (let e = rw feed.0 at plain in cc)
  | inr other ↦ plain_step c rest other.0 (rw other.0 at plain)
]

fed : (rest : List ℕ) → lines_of (10 ∷ rest) ≡ [] ∷ lines_of (after_end (10 ∷ rest))
unfolding lines_of
fed [] = refl
fed (d ∷ rest) = refl

returned : (rest : List ℕ) → lines_of (13 ∷ rest) ≡ [] ∷ lines_of (after_end (13 ∷ rest))
unfolding lines_of
returned [] = refl
returned (d ∷ rest) = elim (eqb_tells d 10) [ inl feed ↦ rw feed.0 refl | inr other ↦ rw other.0 refl ]

-- a line end gives an empty first line
lines_of-end : (c : ℕ) (rest : List ℕ) → is_end c ≡ true → lines_of (c ∷ rest) ≡ [] ∷ lines_of (after_end (c ∷ rest))
lines_of-end c rest ends = elim (eqb_tells c 10) [
  | inl feed ↦ subst (λ d. lines_of (d ∷ rest) ≡ [] ∷ lines_of (after_end (d ∷ rest))) (sym feed.1) (fed rest)
  | inr other ↦ elim (eqb_tells c 13) [
    | inl return ↦ subst (λ d. lines_of (d ∷ rest) ≡ [] ∷ lines_of (after_end (d ∷ rest))) (sym return.1) (returned rest)
    | inr another ↦ absurd (let e = rw (other.0, another.0) at ends in cc)
  ]
]

-- What stands before the first line end is the first line.
pub lines_of-cut : (bytes : List ℕ) (place : ℕ) → Nowhere (Passes is_end bytes) 0 place → Passes is_end bytes place → lines_of bytes ≡ take place bytes ∷ lines_of (after_end (drop place bytes))
lines_of-cut [] zero before ends = absurd (cc ends)
lines_of-cut [] (suc place) before ends = absurd (cc ends)
lines_of-cut (c ∷ rest) zero before ends = lines_of-end c rest ends
lines_of-cut (c ∷ rest) (suc place) before ends =
    lines_of-plain c rest (fails (is_end c) (before 0 (omega arith) (omega arith)))
    ∙ ap (onto_first c) (lines_of-cut rest place (λ k low high. before (suc k) (omega arith) (omega arith)) ends)

-- No bytes have no line.
pub lines_of_none : (bytes : List ℕ) → length bytes ≡ 0 → lines_of bytes ≡ []
unfolding lines_of
lines_of_none [] none = refl
lines_of_none (c ∷ rest) none = absurd (omega arith)

-- Without a line end, all is one line.
pub lines_of-uncut : (bytes : List ℕ) → 0 < length bytes → Nowhere (Passes is_end bytes) 0 (length bytes) → lines_of bytes ≡ bytes ∷ lines_of []
unfolding lines_of
lines_of-uncut [] some before = absurd (omega arith)
lines_of-uncut (c ∷ []) some before = lines_of-plain c [] (fails (is_end c) (before 0 (omega arith) (omega arith)))
lines_of-uncut (c ∷ d ∷ rest) some before =
    lines_of-plain c (d ∷ rest) (fails (is_end c) (before 0 (omega arith) (omega arith)))
    ∙ ap (onto_first c) (lines_of-uncut (d ∷ rest) (omega arith) (λ k low high. before (suc k) (omega arith) (omega arith)))

length-onto_first : (c : ℕ) (lines : List (List ℕ)) → length (onto_first c lines) ≤ length lines + 1
length-onto_first c [] = omega arith
length-onto_first c (line ∷ lines) = omega arith

length-fed_lines-le : (bytes : List ℕ) → length (fed_lines bytes) ≤ length bytes
length-fed_lines-le [] = omega arith
length-fed_lines-le (c ∷ rest) = elim (eqb_tells c 10) [
  | inl feed ↦ rw feed.0 (omega (arith, length-fed_lines-le rest))
  | inr other ↦ rw other.0 (omega (arith, length-onto_first c (fed_lines rest), length-fed_lines-le rest))
]

length-with_line_feeds-le : (bytes : List ℕ) → length (with_line_feeds bytes) ≤ length bytes
length-with_line_feeds-le [] = omega arith
length-with_line_feeds-le (c ∷ []) = omega arith
length-with_line_feeds-le (c ∷ d ∷ rest) = elim (eqb_tells c 13) [
  | inl return ↦ elim (eqb_tells d 10) [
    | inl feed ↦ rw (return.0, feed.0) (omega (arith, length-with_line_feeds-le rest))
    | inr other ↦ rw (return.0, other.0) (omega (arith, length-with_line_feeds-le (d ∷ rest)))
  ]
  | inr other ↦ rw other.0 (omega (arith, length-with_line_feeds-le (d ∷ rest)))
]

pub length-lines_of-le : (bytes : List ℕ) → length (lines_of bytes) ≤ length bytes
unfolding lines_of
length-lines_of-le bytes = omega (arith, length-fed_lines-le (with_line_feeds bytes), length-with_line_feeds-le bytes)
