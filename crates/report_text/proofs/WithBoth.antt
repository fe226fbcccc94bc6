-- Conditions that have both W and L, and the terms that stand for them.
use Rattle.std.proofs.Common.{◌≡◌, Bool, true, inl, inr, List, [], ◌∷◌, filter, refl, sym, ◌∙◌}
use Rattle.std.specs.List.{list_all}
use Rattle.std.proofs.lemmas.Bool.{and_parts, cases_Bool}
use Rattle.std.proofs.lemmas.List.Folds.{list_all-map}
use Rattle.ot_theory.specs.Conditions.{has_both}
use Rattle.ot_theory.specs.Languages.{condition_of}
use Rattle.ot_theory.specs.Problems.{Problem}
use Rattle.ot_theory.specs.Refutations.{is_term}
use Rattle.refutation.specs.declared.term.Term.{Term}
use Rattle.refutation.specs.Terms.{are_terms, term_of, terms_in}
use Rattle.report_text.specs.Listings.{with_both}

all-kept : {X : Type 0} (p q : X → Bool) (xs : List X) → list_all p xs ≡ true → list_all p (filter q xs) ≡ true
all-kept p q [] h = refl
all-kept p q (x ∷ xs) h =
    let parts = and_parts (p x) (list_all p xs) h in
    elim (cases_Bool (q x)) [
      | inl e ↦ rw (e, parts.0) (all-kept p q xs parts.1)
      | inr e ↦ rw e (all-kept p q xs parts.1)
    ]

-- what is kept of a problem's terms are terms of it
pub kept-are_terms : (problem : Problem) (terms kept : List Term) → are_terms problem terms ≡ true → terms_in kept ≡ with_both problem (terms_in terms) → are_terms problem kept ≡ true
kept-are_terms problem terms kept h same =
    let whole : list_all (is_term problem) (terms_in terms) ≡ true = list_all-map (is_term problem) term_of terms ∙ h in
    let part : list_all (is_term problem) (terms_in kept) ≡ true = rw same (all-kept (is_term problem) (λ t. has_both (condition_of problem t)) (terms_in terms) whole) in
    sym (list_all-map (is_term problem) term_of kept) ∙ part
