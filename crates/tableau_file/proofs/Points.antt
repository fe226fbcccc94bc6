-- The pieces of a count between its points.
use Rattle.std.proofs.Common.{◌≡◌, ℕ, ◌+◌, ◌*◌, ◌^◌, ◌-◌, true, false, ◌==◌, ◌&&◌, ◌⊎◌, nat_le, List, [], ◌∷◌, length, ap, refl, sym, inl, inr, arith, ◌∙◌}
use Rattle.std.specs.List.{list_all, onto_first}
use Rattle.std.proofs.lemmas.Bool.{and_parts, and_right, cases_Bool, or_from, or_right}
use Rattle.std.proofs.lemmas.Bool.Decides.{nat_tests, eqb_tells}
use Rattle.tableau_file.specs.declared.limits.TheConstants.{BILLION}
use Rattle.tableau_file.specs.Numbers.{is_digit, is_short_number, value_of, pieces, are_count, is_count, billionths_of, billionths}

not_point : (c : ℕ) → is_digit c ≡ true → (c == 46) ≡ false
not_point c h = grind (arith, nat_tests)

pieces-digits : (text : List ℕ) → list_all is_digit text ≡ true → pieces text ≡ text ∷ []
pieces-digits [] digits = refl
pieces-digits (c ∷ text) digits =
    let parts = and_parts (is_digit c) (list_all is_digit text) digits in
    rw (not_point c parts.0) (ap (onto_first c) (pieces-digits text parts.1))

-- a text is its only piece, or has two pieces or more
one_or_more : (text : List ℕ) → (pieces text ≡ text ∷ []) ⊎ ((a : List ℕ) × (b : List ℕ) × (more : List (List ℕ)) × (pieces text ≡ a ∷ b ∷ more))
one_or_more [] = inl refl
one_or_more (c ∷ text) = elim (eqb_tells c 46) [
  | inl point ↦ rw point.0 (elim (one_or_more text) [
    | inl one ↦ inr ([], text, [], ap (λ texts. [] ∷ texts) one)
    | inr more ↦ inr ([], more.0, more.1 ∷ more.2, ap (λ texts. [] ∷ texts) more.3)
  ])
  | inr other ↦ rw other.0 (elim (one_or_more text) [
    | inl one ↦ inl (ap (onto_first c) one)
    | inr more ↦ inr (c ∷ more.0, more.1, more.2, ap (onto_first c) more.3)
  ])
]

-- what stands after the first point has no other point where it is a short number
are_count-cut : (whole part : List ℕ) → are_count (whole ∷ pieces part) ≡ (is_short_number whole && is_short_number part)
are_count-cut whole part = elim (one_or_more part) [
  | inl one ↦ ap (λ texts. are_count (whole ∷ texts)) one
  | inr more ↦
      let cut : are_count (whole ∷ pieces part) ≡ false = ap (λ texts. are_count (whole ∷ texts)) more.3 in
      elim (cases_Bool (list_all is_digit part)) [
        | inl digits ↦ absurd (let one = pieces-digits part digits in let two = more.3 in cc)
        | inr others ↦ cut ∙ sym (and_right (is_short_number whole) (is_short_number part) (and_right (nat_le 1 (length part) && nat_le (length part) 9) (list_all is_digit part) others))
      ]
]

pub counted-cut : (text whole part : List ℕ) → pieces text ≡ whole ∷ pieces part → is_short_number whole ≡ true → is_short_number part ≡ true
    → (is_count text ≡ true) × (value_of whole * BILLION + value_of part * 10 ^ (9 - length part) ≡ billionths text)
counted-cut text whole part cut first second =
    let uncut = pieces-digits part (and_parts (nat_le 1 (length part) && nat_le (length part) 9) (list_all is_digit part) second).1 in
    let counts : are_count (pieces text) ≡ true = ap are_count cut ∙ are_count-cut whole part ∙ rw (first, second) refl in
    (or_right (length text == 0) (are_count (pieces text)) counts, sym (ap billionths_of (cut ∙ ap (λ texts. whole ∷ texts) uncut)))

pub uncounted-cut : (text whole part : List ℕ) → pieces text ≡ whole ∷ pieces part → (length text == 0) ≡ false → (is_short_number whole && is_short_number part) ≡ false → is_count text ≡ false
uncounted-cut text whole part cut some wrong = or_from (length text == 0) (are_count (pieces text)) some (ap are_count cut ∙ are_count-cut whole part ∙ wrong)
