-- Contradictions, cuts, and the certificates that show that a prefix is refuted.
use Rattle.std.specs.Prelude.{◌≡◌, ℕ, Bool, true, false, not, ◌&&◌, ◌||◌, List, [], ◌∷◌, ◌++◌, map, length, take, slice_get, ◌==◌, nat_lt, filter, flat_map, fold, Option, Some, None, if◌then◌else◌}
use Rattle.std.specs.List.{list_any, list_all, position_or_len}
use Rattle.std.specs.Option.{option_map_or}
use Rattle.ot_theory.specs.declared.Mark.{Mark}
use Rattle.ot_theory.specs.Rankings.{numbers_below, rankings}
use Rattle.ot_theory.specs.Conditions.{keeps, fusion, is_contradictory}
use Rattle.ot_theory.specs.Problems.{Input, Problem, givens}
use Rattle.ot_theory.specs.Languages.{Term, Loser, Given, classes_at, winner_at, terms_of_class, terms_of_givens, terms_of, condition_of, refuted}

-- no ranking of n constraints keeps all these conditions
unfoldable pub no_ranking_keeps : ℕ → List (List Mark) → Bool
no_ranking_keeps n set = not (list_any (λ order. list_all (keeps order) set) (rankings n))

-- a class of an input against another one, or a given pair
abbrev pub is_term : Problem → Term → Bool
is_term problem (Loser i a b) =
    nat_lt i (length problem.inputs) && nat_lt a (length (classes_at problem i)) && nat_lt b (length (classes_at problem i)) && not (b == a)
is_term problem (Given k) = nat_lt k (length (givens problem))

-- the two terms are of different inputs, or have the same winner
abbrev pub agree : Term → Term → Bool
agree (Loser i a b) (Loser j c d) = not (i == j) || (a == c)
agree (Loser i a b) (Given k) = true
agree (Given k) term = true

-- no two of the terms give an input two winners
abbrev pub one_winner_each : List Term → Bool
one_winner_each terms = list_all (λ s. list_all (agree s) terms) terms

-- A contradiction of a problem: some of its terms, with at most one winner for each input, whose conditions fuse to an L and no W.
unfoldable pub is_contradiction : Problem → List Term → Bool
is_contradiction problem terms =
    not (length terms == 0)
    && list_all (is_term problem) terms
    && one_winner_each terms
    && is_contradictory (fusion problem.constraints (map (condition_of problem) terms))

-- the choice that a term asks for: an input, and its winner
abbrev pub choice_of : Term → Option (ℕ × ℕ)
choice_of (Loser i a b) = Some (i, a)
choice_of (Given k) = None

-- A prefix makes the winner choice of a term where it has the winner at its input. A given pair asks nothing of it.
abbrev pub is_made : List ℕ → Term → Bool
is_made prefix term = option_map_or (λ choice. option_map_or (λ c. c == choice.1) (slice_get prefix choice.0) false) (choice_of term) true

-- A contradiction refutes a prefix that makes each of its winner choices.
abbrev pub refutes : List Term → List ℕ → Bool
refutes terms prefix = list_all (is_made prefix) terms

-- the first winner that the terms give an input
abbrev pub winner_in : List Term → ℕ → Option ℕ
winner_in [] i = None
winner_in (Loser j a b ∷ terms) i = if j == i then Some a else winner_in terms i
winner_in (Given k ∷ terms) i = winner_in terms i

-- the winner of an input, if it has one, against each other class of it
abbrev pub terms_of_winner : Problem → ℕ → List Term
terms_of_winner problem i = option_map_or (terms_of_class (classes_at problem i) i) (winner_at problem i) []

-- the given pairs, and then the same of all inputs, in order of input and then of loser
abbrev pub terms_of_winners : Problem → List Term
terms_of_winners problem = terms_of_givens problem ++ flat_map (terms_of_winner problem) (numbers_below (length problem.inputs))

-- what the given pairs and the winners ask of a ranking
abbrev pub conditions_of_winners : Problem → List (List Mark)
conditions_of_winners problem = map (condition_of problem) (terms_of_winners problem)

-- No ranking keeps the conditions of the given pairs and of the winners.
abbrev pub is_contradicted : Problem → Bool
is_contradicted problem = no_ranking_keeps problem.constraints (conditions_of_winners problem)

-- all prefixes of choices, in lexicographic order
unfoldable pub prefixes : List Input → List (List ℕ)
prefixes [] = [] ∷ []
prefixes (input ∷ inputs) = [] ∷ flat_map (λ a. map (λ rest. a ∷ rest) (prefixes inputs)) (numbers_below (length input.classes))

-- The cuts: the refuted prefixes none of whose proper prefixes is refuted.
unfoldable pub cuts : Problem → List (List ℕ)
cuts problem =
    filter (λ prefix. refuted problem prefix && not (list_any (λ k. refuted problem (take k prefix)) (numbers_below (length prefix)))) (prefixes problem.inputs)

-- What is kept of terms that are walked from the last to the first, behind those before them: each is dropped without
-- which the rest is still hopeless.
abbrev pub kept_of : (List Term → Bool) → List Term → List Term → List Term
kept_of hopeless before [] = []
kept_of hopeless before (term ∷ terms) =
    let kept = kept_of hopeless (before ++ term ∷ []) terms in
    if hopeless (before ++ kept) then kept else term ∷ kept

-- the certificate of terms that no ranking keeps
unfoldable pub certificate_of : Problem → List Term → List Term
certificate_of problem terms = kept_of (λ rest. no_ranking_keeps problem.constraints (map (condition_of problem) rest)) [] terms

-- Without any one of the terms some ranking keeps the conditions of the others.
abbrev pub EachIsNeeded : Problem → List Term → Type 0
EachIsNeeded problem terms = (before : List Term) (term : Term) (behind : List Term) → terms ≡ before ++ term ∷ behind
    → no_ranking_keeps problem.constraints (map (condition_of problem) (before ++ behind)) ≡ false

-- the certificates so far, and that of a cut which none of them refutes
abbrev pub with_certificate : Problem → List (List Term) → List ℕ → List (List Term)
with_certificate problem certificates cut =
    if list_any (λ terms. refutes terms cut) certificates
    then certificates
    else certificates ++ certificate_of problem (terms_of problem cut) ∷ []

-- the certificates of all cuts, in order
unfoldable pub certificates : Problem → List (List Term)
certificates problem = fold (with_certificate problem) [] (cuts problem)

-- the place of the certificate that a cut names: the first that refutes it
abbrev pub certificate_named : Problem → List ℕ → ℕ
certificate_named problem cut = position_or_len (λ terms. refutes terms cut) (certificates problem)
