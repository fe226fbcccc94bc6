-- Choices of one class per input, and which of them are languages.
use Rattle.std.specs.Prelude.{◌≡◌, ℕ, Bool, true, false, not, ◌&&◌, List, [], ◌∷◌, ◌++◌, map, length, slice_index_or, ◌==◌, filter, flat_map, slice_get, Option, option_and_then, All}
use Rattle.std.specs.List.{list_all, list_any, enumerate_from}
use Rattle.std.specs.Option.{option_map_or}
use Rattle.ot_theory.specs.declared.Mark.{Mark}
use Rattle.ot_theory.specs.Rankings.{numbers_below, rankings, optimal, stands_before}
use Rattle.ot_theory.specs.Conditions.{condition, over}
use Rattle.ot_theory.specs.Hierarchies.{IsLeastHierarchy}
use Rattle.ot_theory.specs.Problems.{Input, Problem, givens}

-- All choices of one class per input, in lexicographic order.
unfoldable pub choices : List Input → List (List ℕ)
choices [] = [] ∷ []
choices (input ∷ inputs) = flat_map (λ a. map (λ rest. a ∷ rest) (choices inputs)) (numbers_below (length input.classes))

-- the first classes of a choice, each optimal in its input
abbrev pub each_optimal : List ℕ → List Input → List ℕ → Bool
each_optimal order inputs [] = true
each_optimal order [] (a ∷ prefix) = false
each_optimal order (input ∷ inputs) (a ∷ prefix) = optimal order input.classes a && each_optimal order inputs prefix

-- the upper constraint of each given pair stands before the lower one
abbrev pub keeps_givens : Problem → List ℕ → Bool
keeps_givens problem order = list_all (λ pair. stands_before order pair.above pair.below) (givens problem)

-- A prefix of a choice holds under a ranking that keeps the given pairs, where each of its classes is optimal under it.
abbrev pub holds : Problem → List ℕ → List ℕ → Bool
holds problem order prefix = keeps_givens problem order && each_optimal order problem.inputs prefix

-- A prefix is refuted where it holds under no ranking.
unfoldable pub refuted : Problem → List ℕ → Bool
refuted problem prefix = not (list_any (λ order. holds problem order prefix) (rankings problem.constraints))

-- The languages: all choices in order, without those that are refuted.
unfoldable pub languages : Problem → List (List ℕ)
languages problem = filter (λ choice. not (refuted problem choice)) (choices problem.inputs)

-- A term: a class of an input against another class of it, by the numbers of the input, of the one class and of the other; or a
-- given pair, by its number.
pub data Term : Type 0 where
  Loser : ℕ → ℕ → ℕ → Term
  Given : ℕ → Term

-- the classes of an input, and none past the last input
abbrev pub classes_at : Problem → ℕ → List (List ℕ)
classes_at problem i = option_map_or (λ input. input.classes) (slice_get problem.inputs i) []

-- the class of the winner of an input, if it has one
abbrev pub winner_at : Problem → ℕ → Option ℕ
winner_at problem i = option_and_then (λ input. input.winner) (slice_get problem.inputs i)

-- the positions of the candidates of a class of an input
abbrev pub members_at : Problem → ℕ → ℕ → List ℕ
members_at problem i a = slice_index_or (option_map_or (λ input. input.members) (slice_get problem.inputs i) []) a []

-- the profile of a class of an input
abbrev pub profile_at : Problem → ℕ → ℕ → List ℕ
profile_at problem i a = slice_index_or (classes_at problem i) a []

-- a class against each other class of the input
abbrev pub terms_of_class : List (List ℕ) → ℕ → ℕ → List Term
terms_of_class classes i a = map (Loser i a) (filter (λ b. not (b == a)) (numbers_below (length classes)))

-- the given pairs, in order
abbrev pub terms_of_givens : Problem → List Term
terms_of_givens problem = map Given (numbers_below (length (givens problem)))

-- the terms of a prefix: the given pairs, and then its classes in order of input and then of loser
abbrev pub terms_of : Problem → List ℕ → List Term
terms_of problem prefix = terms_of_givens problem ++ flat_map (λ (i, a). terms_of_class (classes_at problem i) i a) (enumerate_from 0 prefix)

-- the condition that a term stands for
abbrev pub condition_of : Problem → Term → List Mark
condition_of problem (Loser i a b) = condition (profile_at problem i a) (profile_at problem i b)
condition_of problem (Given k) = option_map_or (λ pair. over problem.constraints pair.above pair.below) (slice_get (givens problem) k) []

-- what a prefix asks of a ranking
abbrev pub conditions_of : Problem → List ℕ → List (List Mark)
conditions_of problem prefix = map (condition_of problem) (terms_of problem prefix)

-- the languages in order, each beside the least hierarchy of its conditions
pub record IsTypology (problem : Problem) (found : List (List ℕ × List ℕ)) : Type 0 where
  pub all : map (λ language. language.0) found ≡ languages problem
  pub least : All (λ language. IsLeastHierarchy problem.constraints (conditions_of problem language.0) language.1) found
