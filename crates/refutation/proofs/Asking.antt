-- What the classes of a prefix ask: whether a ranking keeps it decides whether the prefix is refuted, and the least hierarchy and the
-- certificate are those of the prefix.
use Rattle.std.proofs.Common.{◌≡◌, ℕ, ◌+◌, ◌<◌, ◌≤◌, List, [], ◌++◌, true, arith, sym, ◌∙◌, ap, length, take, take_all, get_or}
use Rattle.std.proofs.lemmas.List.{length-map, length-take, map_more}
use Rattle.std.proofs.lemmas.List.Folds.{list_all-map}
use Rattle.ot_base.specs.declared.tableau.ClassId.{ClassId}
use Rattle.ot_theory.specs.declared.Mark.{Mark}
use Rattle.ot_theory.specs.Hierarchies.{IsLeastHierarchy}
use Rattle.ot_theory.specs.Problems.{Problem}
use Rattle.ot_theory.specs.Languages.{classes_at, conditions_of, refuted, terms_of, terms_of_class, terms_of_givens}
use Rattle.ot_theory.specs.Refutations.{certificate_of, is_term, no_ranking_keeps, one_winner_each}
use Rattle.ot_theory.proofs.Optimal.{refuted-conditions}
use Rattle.ot_theory.proofs.Redundant.{IsReduced-certificate, IsReduced-hopeless, IsReduced-least}
use Rattle.violation_profiles.proofs.Inputs.{AllFit-prefix}
use Rattle.violation_profiles.specs.WellFormed.{IsPrefix, IsWellFormed}
use Rattle.refutation.specs.Asked.{AreAsked}
use Rattle.refutation.specs.Prefixes.{class_numbers, is_made}
use Rattle.refutation.specs.Terms.{are_terms, term_of, terms_in}
use Rattle.refutation.specs.declared.term.Term.{Term}
use Rattle.refutation.proofs.TermsOfPrefixes.{made-one, terms_of-genuine, terms_of-made, terms_of-none, terms_of-push}

-- what the given pairs ask is what the prefix of no class asks
pub asked-givens : (problem : Problem) (terms : List Term) (conditions : List (List Mark)) → AreAsked problem (terms_of_givens problem) terms conditions → AreAsked problem (terms_of problem []) terms conditions
asked-givens problem terms conditions h = rw (terms_of-none problem) h

-- what the first classes ask, with what one class more asks
pub asked-more : (problem : Problem) (classes : List ClassId) (i : ℕ) (d : ClassId) (terms : List Term) (conditions : List (List Mark)) → i < length classes
    → AreAsked problem (terms_of problem (class_numbers (take i classes)) ++ terms_of_class (classes_at problem i) i (get_or classes i d).0) terms conditions
    → AreAsked problem (terms_of problem (class_numbers (take (i + 1) classes))) terms conditions
asked-more problem classes i d terms conditions below h =
    let front = class_numbers (take i classes) in
    let long : length front ≡ i = omega (arith, length-map (take i classes) (λ class. class.0), length-take i classes) in
    rw (map_more (λ class. class.0) classes i d below, terms_of-push problem front i (get_or classes i d).0 long) h

-- what all of them ask
pub asked-prefix : (problem : Problem) (classes : List ClassId) (i : ℕ) (terms : List Term) (conditions : List (List Mark)) → length classes ≤ i → AreAsked problem (terms_of problem (class_numbers (take i classes))) terms conditions
    → AreAsked problem (terms_of problem (class_numbers classes)) terms conditions
asked-prefix problem classes i terms conditions all h = rw (take_all i classes all) at h

-- They are terms of the problem, with one winner for each input.
pub asked-genuine : (problem : Problem) (prefix : List ℕ) (terms : List Term) (conditions : List (List Mark)) → IsPrefix problem prefix → AreAsked problem (terms_of problem prefix) terms conditions → are_terms problem terms ≡ true
asked-genuine problem prefix terms conditions p h =
    sym (list_all-map (is_term problem) term_of terms) ∙ h.reduced.part (is_term problem) (terms_of-genuine problem prefix p)

pub asked-one : (problem : Problem) (prefix : List ℕ) (terms : List Term) (conditions : List (List Mark)) → AreAsked problem (terms_of problem prefix) terms conditions → one_winner_each (terms_in terms) ≡ true
asked-one problem prefix terms conditions h = made-one prefix (terms_in terms) (h.reduced.part (is_made prefix) (terms_of-made problem prefix))

-- No ranking keeps them exactly where the prefix is refuted.
pub asked-refuted : (problem : Problem) (prefix : List ℕ) (terms : List Term) (conditions : List (List Mark)) → IsWellFormed problem → IsPrefix problem prefix → AreAsked problem (terms_of problem prefix) terms conditions
    → refuted problem prefix ≡ no_ranking_keeps problem.constraints conditions
asked-refuted problem prefix terms conditions well p h =
    refuted-conditions problem prefix (AllFit-prefix problem prefix well p) ∙ IsReduced-hopeless problem (terms_of problem prefix) (terms_in terms) h.reduced ∙ ap (no_ranking_keeps problem.constraints) (sym h.each)

pub asked-least : (problem : Problem) (prefix : List ℕ) (terms : List Term) (conditions : List (List Mark)) (levels : List ℕ) → AreAsked problem (terms_of problem prefix) terms conditions
    → IsLeastHierarchy problem.constraints conditions levels → IsLeastHierarchy problem.constraints (conditions_of problem prefix) levels
asked-least problem prefix terms conditions levels h least = IsReduced-least problem (terms_of problem prefix) (terms_in terms) levels h.reduced (rw h.each at least)

-- Their certificate is that of the prefix.
pub asked-certificate : (problem : Problem) (prefix : List ℕ) (terms : List Term) (conditions : List (List Mark)) → IsWellFormed problem → IsPrefix problem prefix → AreAsked problem (terms_of problem prefix) terms conditions
    → refuted problem prefix ≡ true → certificate_of problem (terms_in terms) ≡ certificate_of problem (terms_of problem prefix)
asked-certificate problem prefix terms conditions well p h hopeless =
    sym (IsReduced-certificate problem (terms_of problem prefix) (terms_in terms) h.reduced (sym (refuted-conditions problem prefix (AllFit-prefix problem prefix well p)) ∙ hopeless))
