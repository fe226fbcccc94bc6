-- The conditions of a set that have both W and L.
use Rattle.std.proofs.Common.{◌≡◌, ℕ, Bool, true, false, not, List, [], ◌∷◌, length, refl, sym, ◌∙◌, ap, subst, inl, inr, arith}
use Rattle.std.specs.Prelude.{filter, All, IsTrue}
use Rattle.std.specs.List.{list_all}
use Rattle.std.proofs.lemmas.Bool.{and_parts, cases_Bool}
use Rattle.std.proofs.lemmas.List.Elements.{All-head, All-filter, filter_passes}
use Rattle.ot_theory.specs.declared.Mark.{Mark}
use Rattle.ot_theory.specs.Conditions.{width_of, has_both}
use Rattle.ot_theory.specs.Refutations.{no_ranking_keeps}
use Rattle.ot_theory.proofs.Sets.{IsPart, no_ranking_keeps-more}
use Rattle.ot_theory.proofs.Enumeration.{any-ranking}
use Rattle.ot_theory.proofs.Orders.{IsRanking-numbers}
use Rattle.ot_theory.specs.Rankings.{numbers_below}

-- some conditions of a set are a part of it
filtered-part : (test : List Mark → Bool) (set : List (List Mark)) → IsPart (filter test set) set
filtered-part test [] p h = refl
filtered-part test (marks ∷ set) p h =
    let parts = and_parts (p marks) (list_all p set) h in
    elim (cases_Bool (test marks)) [
      | inl kept ↦ rw (kept, parts.0) (filtered-part test set p parts.1)
      | inr dropped ↦ rw dropped (filtered-part test set p parts.1)
    ]

-- of conditions that some ranking keeps it keeps some too
kept-filtered : (n : ℕ) (test : List Mark → Bool) (set : List (List Mark)) → no_ranking_keeps n set ≡ false → no_ranking_keeps n (filter test set) ≡ false
kept-filtered n test set kept = elim (cases_Bool (no_ranking_keeps n (filter test set))) [
  | inl hopeless ↦
      let all : no_ranking_keeps n set ≡ true = no_ranking_keeps-more n (filter test set) set (filtered-part test set) hopeless in
      absurd (true_false (sym all ∙ kept))
  | inr some ↦ some
]
  where
    true_false : true ≡ false → ⊥
    true_false e = cc

-- every ranking keeps no condition at all
kept-nothing : (n : ℕ) → no_ranking_keeps n [] ≡ false
unfolding no_ranking_keeps
kept-nothing n = ap not (any-ranking n (numbers_below n) (λ order. true) (IsRanking-numbers n) refl)

-- the width of conditions that are each of n constraints is n, where there are any
of_width : (n : ℕ) (set : List (List Mark)) → All (λ marks. length marks ≡ n) set → no_ranking_keeps n set ≡ false → no_ranking_keeps (width_of set) set ≡ false
of_width n [] widths kept = kept-nothing 0
of_width n (marks ∷ set) widths kept =
    subst (λ (k : ℕ). no_ranking_keeps k (marks ∷ set) ≡ false) (sym (All-head (λ (other : List Mark). length other ≡ n) marks set widths)) kept

same_widths : (n : ℕ) (set : List (List Mark)) → All (λ marks. length marks ≡ n) set → All (λ marks. length marks ≡ width_of set) set
same_widths n [] widths = λ k d h. absurd (omega (arith, h))
same_widths n (marks ∷ set) widths =
    subst (λ (k : ℕ). All (λ (other : List Mark). length other ≡ k) (marks ∷ set)) (sym (All-head (λ (other : List Mark). length other ≡ n) marks set widths)) widths

pub both-kept : (n : ℕ) (set : List (List Mark)) → All (λ marks. length marks ≡ n) set → no_ranking_keeps n set ≡ false → no_ranking_keeps (width_of (filter has_both set)) (filter has_both set) ≡ false
both-kept n set widths kept = of_width n (filter has_both set) (All-filter has_both (λ (marks : List Mark). length marks ≡ n) set widths) (kept-filtered n has_both set kept)

pub both-widths : (n : ℕ) (set : List (List Mark)) → All (λ marks. length marks ≡ n) set → All (λ marks. length marks ≡ width_of (filter has_both set)) (filter has_both set)
both-widths n set widths = same_widths n (filter has_both set) (All-filter has_both (λ (marks : List Mark). length marks ≡ n) set widths)

pub both-both : (set : List (List Mark)) → All (λ marks. IsTrue (has_both marks)) (filter has_both set)
both-both set = filter_passes has_both set
