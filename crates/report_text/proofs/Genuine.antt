-- What is known of the terms of a contradiction.
use Rattle.std.proofs.Common.{◌≡◌, ◌<◌, List, [], ◌∷◌, length, arith, true, sym, ◌∙◌}
use Rattle.std.specs.Prelude.{not, ◌==◌}
use Rattle.std.proofs.lemmas.Bool.{and_parts}
use Rattle.std.proofs.lemmas.List.Folds.{list_all-map}
use Rattle.ot_theory.specs.Problems.{Problem}
use Rattle.ot_theory.specs.Refutations.{is_term, is_contradiction}
use Rattle.refutation.specs.declared.term.Term.{Term}
use Rattle.refutation.specs.Terms.{are_terms, term_of, terms_in}

not_empty : (terms : List Term) → not (length (terms_in terms) == 0) ≡ true → 0 < length terms
not_empty [] h = absurd (cc)
not_empty (t ∷ terms) h = omega arith

-- there are some
pub genuine-some : (problem : Problem) (terms : List Term) → is_contradiction problem (terms_in terms) ≡ true → 0 < length terms
unfolding is_contradiction
genuine-some problem terms h = not_empty terms (and_parts _ _ (and_parts _ _ (and_parts _ _ h).0).0).0

-- each is one of the problem
pub genuine-terms : (problem : Problem) (terms : List Term) → is_contradiction problem (terms_in terms) ≡ true → are_terms problem terms ≡ true
unfolding is_contradiction
genuine-terms problem terms h = sym (list_all-map (is_term problem) term_of terms) ∙ (and_parts _ _ (and_parts _ _ (and_parts _ _ h).0).0).1
