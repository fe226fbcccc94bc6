-- Texts without the spaces at their ends.
use Rattle.std.proofs.Common.{◌≡◌, ℕ, suc, ◌+◌, ◌-◌, ◌≤◌, false, true, ◌==◌, List, [], ◌∷◌, length, reverse, arith, inl, inr, ap, refl, ◌∙◌}
use Rattle.std.specs.List.{list_all, prefix_len, suffix_len}
use Rattle.std.proofs.lemmas.Bool.Decides.{eqb_tells, leb_tells}
use Rattle.std.proofs.lemmas.List.{get_or-reverse, length-take-le}
use Rattle.std.proofs.lemmas.List.Sums.{prefix_len_passes}
use Rattle.tab_cells.specs.Cells.{is_space, trimmed, trimmed_start, trimmed_end}

trimmed_start-space : (c : ℕ) (text : List ℕ) → is_space c ≡ true → trimmed_start (c ∷ text) ≡ trimmed_start text
trimmed_start-space c text space =
    let next : 1 + prefix_len is_space text ≡ suc (prefix_len is_space text) = omega arith in
    rw (space, next) refl

-- the spaces at the end do not reach back to another byte
suffix_len-le : (c : ℕ) (text : List ℕ) → is_space c ≡ false → suffix_len is_space (c ∷ text) ≤ length text
suffix_len-le c text other = elim (leb_tells (suffix_len is_space (c ∷ text)) (length text)) [
  | inl short ↦ short.1
  | inr long ↦
      let last = get_or-reverse (c ∷ text) (length text) 0 (omega arith) in
      let first : length (c ∷ text) - 1 - length text ≡ 0 = omega arith in
      let passes = prefix_len_passes is_space (reverse (c ∷ text)) (length text) 0 (omega (arith, long.1)) in
      absurd (let space : is_space c ≡ true = rw (last, first) at passes in cc)
]

some : (c : ℕ) (text : List ℕ) → is_space c ≡ false → (length (trimmed_end (c ∷ text)) == 0) ≡ false
some c text other =
    let short = suffix_len-le c text other in
    let kept = length-take-le (length (c ∷ text) - suffix_len is_space (c ∷ text)) (c ∷ text) (omega arith) in
    elim (eqb_tells (length (trimmed_end (c ∷ text))) 0) [ inl empty ↦ absurd (omega (arith, kept, short, empty.1)) | inr more ↦ more.0 ]

-- nothing is left of spaces alone
pub trimmed-empty : (text : List ℕ) → (length (trimmed text) == 0) ≡ list_all is_space text
trimmed-empty [] = refl
trimmed-empty (c ∷ text) = elim (eqb_tells c 32) [
  | inl space ↦ ap (λ t. length (trimmed_end t) == 0) (trimmed_start-space c text space.0) ∙ trimmed-empty text ∙ rw space.0 refl
  | inr other ↦ rw other.0 (some c text other.0)
]
