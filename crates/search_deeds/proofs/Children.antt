-- The children of a prefix of the problem are prefixes of it.
use Rattle.std.proofs.Common.{◌≡◌, ℕ, zero, suc, ◌+◌, ◌<◌, List, [], ◌∷◌, ◌++◌, arith, refl, ◌∙◌, inl, inr, get_or, length, map}
use Rattle.std.specs.Prelude.{All, slice_index}
use Rattle.std.proofs.lemmas.Bool.{cases_lt}
use Rattle.std.proofs.lemmas.List.{length-append, append_assoc}
use Rattle.std.proofs.lemmas.List.Elements.{All-from_get_or, All-map}
use Rattle.std.proofs.lemmas.List.FromFn.{length-range_with_len, get_or-range_with_len, map-range_with_len_more}
use Rattle.ot_theory.specs.Rankings.{numbers_below}
use Rattle.ot_theory.specs.Problems.{Problem}
use Rattle.ot_theory.specs.Languages.{classes_at}
use Rattle.violation_profiles.specs.WellFormed.{IsPrefix}
use Rattle.search_deeds.specs.Deeds.{children}

-- what stands before the last of a list, and the last itself
at_push : (xs : List ℕ) (x i : ℕ) → i < length xs → slice_index (xs ++ x ∷ []) i ≡ slice_index xs i
at_push [] x i h = absurd (omega arith)
at_push (y ∷ xs) x zero h = refl
at_push (y ∷ xs) x (suc i) h = at_push xs x i (omega arith)

at_end : (xs : List ℕ) (x : ℕ) → slice_index (xs ++ x ∷ []) (length xs) ≡ x
at_end [] x = refl
at_end (y ∷ xs) x = at_end xs x

pub IsPrefix-child : (problem : Problem) (prefix : List ℕ) (a : ℕ) → IsPrefix problem prefix → length prefix < length problem.inputs → a < length (classes_at problem (length prefix)) → IsPrefix problem (prefix ++ a ∷ [])
IsPrefix-child problem prefix a p short below =
    let long = length-append prefix (a ∷ []) in
    record { short = omega (arith, long); within = λ i before. by i (omega (arith, long)) }
  where
    by : (i : ℕ) → i < length prefix + 1 → slice_index (prefix ++ a ∷ []) i < length (classes_at problem i)
    by i h = elim (cases_lt i (length prefix)) [
      | inl less ↦ rw (at_push prefix a i less) (p.within i less)
      | inr most ↦ let e : i ≡ length prefix = omega arith in rw (e, at_end prefix a) below
    ]

pub IsPrefix-children : (problem : Problem) (prefix : List ℕ) → IsPrefix problem prefix → length prefix < length problem.inputs → All (IsPrefix problem) (children problem prefix)
IsPrefix-children problem prefix p short =
    let n = length (classes_at problem (length prefix)) in
    All-map (IsPrefix problem) (λ a. prefix ++ a ∷ []) (numbers_below n)
    (All-from_get_or (λ a. IsPrefix problem (prefix ++ a ∷ [])) (numbers_below n) 0
    (λ i h. let below : i < n = omega (arith, length-range_with_len 0 n) in
    IsPrefix-child problem prefix (get_or (numbers_below n) i 0) p short (omega (arith, get_or-range_with_len 0 n i 0 below))))

-- the children of the first n classes
abbrev pub children_below : List ℕ → ℕ → List (List ℕ)
children_below prefix n = map (λ a. prefix ++ a ∷ []) (numbers_below n)

pub children-more : (prefix : List ℕ) (a : ℕ) (before now new : List (List ℕ)) (child : List ℕ) → now ≡ before ++ children_below prefix a → new ≡ now ++ child ∷ [] → child ≡ prefix ++ a ∷ [] → new ≡ before ++ children_below prefix (a + 1)
children-more prefix a before now new child e f g =
    f ∙ rw (e, g, append_assoc, map-range_with_len_more (λ a. prefix ++ a ∷ []) 0 a a (omega arith)) refl
