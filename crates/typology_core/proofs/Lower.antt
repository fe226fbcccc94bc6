-- The least hierarchy of a prefix, carried on to a prefix of one class more.
use Rattle.std.proofs.Common.{◌≡◌, ℕ, Some, List, [], ◌∷◌, ◌++◌, true, false, refl, sym, ◌∙◌, ap, length, map, take, drop}
use Rattle.std.specs.Prelude.{All, IsTrue}
use Rattle.std.specs.List.{list_all}
use Rattle.std.proofs.lemmas.Bool.{and_from, and_parts}
use Rattle.std.proofs.lemmas.List.{map-append, take-append-drop}
use Rattle.std.proofs.lemmas.List.Folds.{list_all-append}
use Rattle.std.proofs.lemmas.List.Sums.{AllPass-from_list_all, list_all-from_AllPass}
use Rattle.ot_theory.specs.declared.Mark.{Mark}
use Rattle.ot_theory.specs.Hierarchies.{satisfies, IsLeastHierarchy}
use Rattle.ot_theory.specs.Problems.{Problem}
use Rattle.ot_theory.specs.Languages.{classes_at, condition_of, conditions_of, refuted, terms_of, terms_of_class}
use Rattle.ot_theory.proofs.Orders.{kept-satisfied}
use Rattle.refutation.proofs.TermsOfPrefixes.{terms_of-push}
use Rattle.violation_profiles.specs.WellFormed.{IsWellFormed}
use Rattle.typology_core.specs.Walked.{IsJudged, IsLower, IsPathOf, prefix_of}
use Rattle.typology_core.proofs.Walking.{path-refuted}
use Rattle.typology_core.specs.declared.walk.Path.{Path}

-- It is at most every hierarchy that satisfies what the longer prefix asks.
pub IsLower-child : (problem : Problem) (prefix : List ℕ) (a : ℕ) (levels : List ℕ) → IsLeastHierarchy problem.constraints (conditions_of problem prefix) levels → IsLower problem (prefix ++ a ∷ []) levels
IsLower-child problem prefix a levels h = record {
  width = h.satisfying.width;
  from_one = h.satisfying.from_one;
  least = λ other s c. h.least other (record { width = s.width; from_one = s.from_one; each = front other s.each }) c;
}
  where
    more : List (List Mark)
    more = map (condition_of problem) (terms_of_class (classes_at problem (length prefix)) (length prefix) a)

    longer : conditions_of problem (prefix ++ a ∷ []) ≡ conditions_of problem prefix ++ more
    longer = ap (map (condition_of problem)) (terms_of-push problem prefix (length prefix) a refl)
        ∙ map-append (condition_of problem) (terms_of problem prefix) (terms_of_class (classes_at problem (length prefix)) (length prefix) a)

    front : (other : List ℕ) → All (λ marks. IsTrue (satisfies other marks)) (conditions_of problem (prefix ++ a ∷ [])) → All (λ marks. IsTrue (satisfies other marks)) (conditions_of problem prefix)
    front other all =
        let whole : list_all (satisfies other) (conditions_of problem prefix ++ more) ≡ true = ap (list_all (satisfies other)) (sym longer) ∙ list_all-from_AllPass (satisfies other) (conditions_of problem (prefix ++ a ∷ [])) all in
        AllPass-from_list_all (satisfies other) (conditions_of problem prefix) (and_parts _ _ (sym (list_all-append (satisfies other) (conditions_of problem prefix) more) ∙ whole)).0

-- It satisfies what the path asks.
pub path-satisfied : (problem : Problem) (path : Path) (levels : List ℕ) → IsPathOf problem path → IsLeastHierarchy problem.constraints (conditions_of problem (prefix_of path)) levels → list_all (satisfies levels) path.asked.conditions.items ≡ true
path-satisfied problem path levels h least =
    ap (list_all (satisfies levels)) h.asked.each ∙ sym (h.asked.reduced.satisfied levels) ∙ list_all-from_AllPass (satisfies levels) (conditions_of problem (prefix_of path)) least.satisfying.each

-- Where it satisfies all that the longer one asks, it is its least hierarchy.
pub path-lower : (problem : Problem) (path : Path) (levels : List ℕ) → IsPathOf problem path → IsLower problem (prefix_of path) levels → list_all (satisfies levels) path.asked.conditions.items ≡ true
    → IsLeastHierarchy problem.constraints (conditions_of problem (prefix_of path)) levels
path-lower problem path levels h lower all = record {
  satisfying = record {
    width = lower.width;
    from_one = lower.from_one;
    each = AllPass-from_list_all (satisfies levels) (conditions_of problem (prefix_of path)) (h.asked.reduced.satisfied levels ∙ ap (list_all (satisfies levels)) (sym h.asked.each) ∙ all);
  };
  least = lower.least;
}

-- the first conditions and the others
pub all-satisfied : (levels : List ℕ) (set : List (List Mark)) (first : ℕ) → list_all (satisfies levels) (take first set) ≡ true → list_all (satisfies levels) (drop first set) ≡ true → list_all (satisfies levels) set ≡ true
all-satisfied levels set first here rest =
    ap (list_all (satisfies levels)) (sym (take-append-drop first set)) ∙ list_all-append (satisfies levels) (take first set) (drop first set) ∙ and_from _ _ here rest

-- So some ranking keeps what it asks.
pub path-held : (problem : Problem) (path : Path) (levels : List ℕ) → IsWellFormed problem → IsPathOf problem path → IsLower problem (prefix_of path) levels → list_all (satisfies levels) path.asked.conditions.items ≡ true → refuted problem (prefix_of path) ≡ false
path-held problem path levels well h lower all =
    path-refuted problem path problem.constraints path.asked.conditions.items well h refl refl
    ∙ kept-satisfied problem.constraints path.asked.conditions.items levels h.asked.widths (record { width = lower.width; from_one = lower.from_one; each = AllPass-from_list_all (satisfies levels) path.asked.conditions.items all })

pub judged-lower : (problem : Problem) (path : Path) (levels : List ℕ) → IsWellFormed problem → IsPathOf problem path → IsLower problem (prefix_of path) levels → list_all (satisfies levels) path.asked.conditions.items ≡ true
    → IsJudged problem (prefix_of path) (Some levels)
judged-lower problem path levels well h lower all = record { held = path-held problem path levels well h lower all; least = path-lower problem path levels h lower all; refuted = tt }
