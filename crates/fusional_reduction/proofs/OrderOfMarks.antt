-- The order of lists of marks, behind marks that are equal.
use Rattle.std.proofs.Common.{◌≡◌, ℕ, ◌<◌, min, List, [], ◌∷◌, map, length, drop, arith, refl, ◌∙◌, inl, inr}
use Rattle.std.specs.Ordering.{nat_cmp}
use Rattle.std.specs.Cmp.{nat_cmp_is}
use Rattle.std.specs.Cmp.Lexicographic.{slice_cmp}
use Rattle.std.specs.declared.cmp.Ordering.TheVariants.{Less, Equal, Greater}
use Rattle.std.proofs.lemmas.Bool.{cases_order}
use Rattle.std.proofs.lemmas.List.{length-drop}
use Rattle.std.proofs.Math.ListN.{drop_of_length-le}
use Rattle.ot_theory.specs.declared.Mark.{Mark}
use Rattle.fusional_reduction.specs.Bases.{place_of}

shorter : (ys : List Mark) → 0 < length ys → slice_cmp nat_cmp [] (map place_of ys) ≡ Less
shorter [] h = absurd (omega arith)
shorter (y ∷ ys) h = refl

longer : (xs : List Mark) → 0 < length xs → slice_cmp nat_cmp (map place_of xs) [] ≡ Greater
longer [] h = absurd (omega arith)
longer (x ∷ xs) h = refl

-- Where one of them ends, the lengths decide.
pub order-end : (a b : List Mark) (k : ℕ) → k ≡ min (length a) (length b) → slice_cmp nat_cmp (map place_of (drop k a)) (map place_of (drop k b)) ≡ nat_cmp (length a) (length b)
order-end a b k e = elim (cases_order (length a) (length b)) [
  | inl same ↦
      let first = drop_of_length-le a {i = k} (omega (arith, e, same)) in
      let second = drop_of_length-le b {i = k} (omega (arith, e, same)) in
      rw (first, second) (nat_cmp_is (length a) (length b) Equal same)
  | inr other ↦ elim other [
    | inl less ↦
        let first = drop_of_length-le a {i = k} (omega (arith, e, less)) in
        rw first (shorter (drop k b) (omega (arith, length-drop k b, e, less)) ∙ nat_cmp_is (length a) (length b) Less less)
    | inr more ↦
        let second = drop_of_length-le b {i = k} (omega (arith, e, more)) in
        rw second (longer (drop k a) (omega (arith, length-drop k a, e, more)) ∙ nat_cmp_is (length a) (length b) Greater more)
  ]
]
