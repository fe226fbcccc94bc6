-- The terms of the winners, an input after another.
use Rattle.std.proofs.Common.{◌≡◌, ℕ, ◌+◌, ◌<◌, ◌≤◌, List, [], ◌∷◌, ◌++◌, true, false, ◌==◌, refl, sym, ◌∙◌, ap, append_assoc, subst, length, Option, Some, None}
use Rattle.std.specs.Prelude.{IfSome, option_and_then, slice_get}
use Rattle.std.proofs.lemmas.Option.{get_or_from_slice_get, slice_get_within}
use Rattle.std.specs.Option.{option_map_or}
use Rattle.std.proofs.lemmas.List.{map-append}
use Rattle.std.proofs.lemmas.List.Folds.{list_all-map}
use Rattle.ot_theory.specs.Problems.{Problem, Input}
use Rattle.ot_theory.specs.Languages as theory
use Rattle.ot_theory.specs.Languages.{classes_at, winner_at, terms_of_class}
use Rattle.ot_theory.specs.Refutations.{is_term, one_winner_each}
use Rattle.ot_theory.proofs.Terms.{term}
use Rattle.ot_theory.proofs.WinnerTerms.{terms_below, terms_below-other, terms_below-same, winners_below, winners_below-more, winners-genuine, winners-one}
use Rattle.violation_profiles.specs.WellFormed.{IsWellFormed, IsWellFormedInput}
use Rattle.refutation.specs.declared.term.Term.{Term}
use Rattle.refutation.specs.Terms.{are_terms, term_of, terms_in}

pub pushed : (terms new : List Term) (first : List theory.Term) (t : Term) (i a b : ℕ) → (b == a) ≡ false → new ≡ terms ++ t ∷ [] → term_of t ≡ term i a b → terms_in terms ≡ first ++ terms_below i a b → terms_in new ≡ first ++ terms_below i a (b + 1)
pushed terms new first t i a b other e same h =
    ap terms_in e ∙ map-append term_of terms (t ∷ []) ∙ rw (same, h) (append_assoc first (terms_below i a b) (term i a b ∷ [])) ∙ ap (λ (l : List theory.Term). first ++ l) (sym (terms_below-other i a b other))

pub passed : (terms new : List Term) (first : List theory.Term) (i a b : ℕ) → (b == a) ≡ true → new ≡ terms → terms_in terms ≡ first ++ terms_below i a b → terms_in new ≡ first ++ terms_below i a (b + 1)
passed terms new first i a b same e h = ap terms_in e ∙ h ∙ ap (λ (l : List theory.Term). first ++ l) (sym (terms_below-same i a b same))

-- the terms of the winners, with those of an input that has one, and of an input that has none
pub one-input : (problem : Problem) (terms new : List Term) (i : ℕ) (winner : Option ℕ) → winner ≡ winner_at problem i → terms_in terms ≡ winners_below problem i
    → terms_in new ≡ terms_in terms ++ option_map_or (terms_of_class (classes_at problem i) i) winner [] → terms_in new ≡ winners_below problem (i + 1)
one-input problem terms new i winner w h e = e ∙ rw (h, w) (sym (winners_below-more problem i))

-- each winner is a class of its input
within : (problem : Problem) → IsWellFormed problem → (i : ℕ) → IfSome (winner_at problem i) (λ a. a < length (classes_at problem i))
within problem well i = by (slice_get problem.inputs i) (λ input e. (each input e).winner)
  where
    each : (input : Input) → slice_get problem.inputs i ≡ Some input → IsWellFormedInput problem.constraints input
    each input e = subst (IsWellFormedInput problem.constraints) (get_or_from_slice_get problem.inputs i input input e) (well.each i input (slice_get_within problem.inputs i input e))

    by : (o : Option Input) → ((input : Input) → o ≡ Some input → IfSome input.winner (λ a. a < length input.classes))
        → IfSome (option_and_then (λ input. input.winner) o) (λ a. a < length (option_map_or (λ input. input.classes) o []))
    by None h = tt
    by (Some input) h = h input refl

pub winners-are_terms : (problem : Problem) (terms : List Term) (i : ℕ) → IsWellFormed problem → i ≤ length problem.inputs → terms_in terms ≡ winners_below problem i → are_terms problem terms ≡ true
winners-are_terms problem terms i well below h =
    sym (list_all-map (is_term problem) term_of terms) ∙ rw h (winners-genuine problem i below (within problem well))

pub winners-one_winner : (problem : Problem) (terms : List Term) (i : ℕ) → terms_in terms ≡ winners_below problem i → one_winner_each (terms_in terms) ≡ true
winners-one_winner problem terms i h = rw h (winners-one problem i)
