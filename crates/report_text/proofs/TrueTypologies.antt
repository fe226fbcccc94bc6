-- The typology of a problem is printable.
use Rattle.std.proofs.Common.{◌≡◌, ℕ, zero, suc, ◌<◌, ◌≤◌, Bool, true, not, ◌&&◌, ◌==◌, List, [], ◌∷◌, All, length, map, flat_map, get_or, slice_get, arith, refl, subst}
use Rattle.std.specs.List.{list_all, range_with_len}
use Rattle.std.specs.Option.{option_map_or}
use Rattle.std.proofs.lemmas.Bool.{and_parts}
use Rattle.std.proofs.lemmas.List.{length-map, get_or-map}
use Rattle.std.proofs.lemmas.List.Elements.{All-nil, All-cons, All-map, All-weaker, All-filter, All-same}
use Rattle.std.proofs.lemmas.List.FromFn.{length-range_with_len, get_or-range_with_len}
use Rattle.ot_theory.specs.Conditions.{fusion, is_contradictory}
use Rattle.ot_theory.specs.Languages.{Term, choices, refuted, languages, condition_of}
use Rattle.ot_theory.specs.Problems.{Problem, Input}
use Rattle.ot_theory.specs.Rankings.{numbers_below}
use Rattle.ot_theory.specs.Refutations.{is_term, one_winner_each, is_contradiction, prefixes, cuts}
use Rattle.ot_theory.proofs.Classes.{All-flat_map}
use Rattle.report_text.specs.Printable.{IsCertificate, IsPrintable, IsTypologyFound}
use Rattle.report_text.proofs.NoGaps.{hierarchy-least}

-- the classes of an input
abbrev classes_in : List Input → ℕ → List (List ℕ)
classes_in inputs i = option_map_or (λ (input : Input). input.classes) (slice_get inputs i) []

-- class numbers of the first inputs
record AreClasses (inputs : List Input) (numbers : List ℕ) : Type 0 where
  short : length numbers ≤ length inputs
  within : (i : ℕ) → i < length numbers → get_or numbers i 0 < length (classes_in inputs i)

none : (inputs : List Input) → AreClasses inputs []
none inputs = record { short = omega arith; within = λ i below. absurd (omega (arith, below)) }

one_more : (input : Input) (inputs : List Input) (a : ℕ) (numbers : List ℕ) → a < length input.classes → AreClasses inputs numbers → AreClasses (input ∷ inputs) (a ∷ numbers)
one_more input inputs a numbers below h = record { short = omega (arith, h.short); within = at }
  where
    at : (i : ℕ) → i < length (a ∷ numbers) → get_or (a ∷ numbers) i 0 < length (classes_in (input ∷ inputs) i)
    at zero within = below
    at (suc i) within = h.within i (omega (arith, within))

-- the lists that begin with a class of the input
each_first : (P Q : List ℕ → Type 0) (n : ℕ) (lists : List (List ℕ)) → ((a : ℕ) (list : List ℕ) → a < n → P list → Q (a ∷ list)) → All P lists
    → All Q (flat_map (λ a. map (λ rest. a ∷ rest) lists) (numbers_below n))
each_first P Q n lists more each = All-flat_map Q (λ a. map (λ rest. a ∷ rest) lists) (numbers_below n) at
  where
    at : (k d : ℕ) → k < length (numbers_below n) → All Q (map (λ rest. get_or (numbers_below n) k d ∷ rest) lists)
    at k d within =
        let below : k < n = omega (arith, within, length-range_with_len 0 n) in
        let a = get_or (range_with_len 0 n) k d in
        let small : a < n = omega (arith, below, get_or-range_with_len 0 n k d below) in
        All-map Q (λ rest. a ∷ rest) lists (All-weaker P (λ rest. Q (a ∷ rest)) (λ rest h. more a rest small h) lists each)

-- a class of each input
record AreAllClasses (inputs : List Input) (numbers : List ℕ) : Type 0 where
  full : length numbers ≡ length inputs
  classes : AreClasses inputs numbers

each_choice : (inputs : List Input) → All (AreAllClasses inputs) (choices inputs)
unfolding choices
each_choice [] = All-cons (AreAllClasses []) [] [] (record { full = refl; classes = none [] }) (All-nil (AreAllClasses []))
each_choice (input ∷ inputs) = each_first (AreAllClasses inputs) (AreAllClasses (input ∷ inputs)) (length input.classes) (choices inputs)
    (λ a list below h. record { full = omega (arith, h.full); classes = one_more input inputs a list below h.classes }) (each_choice inputs)

each_prefix : (inputs : List Input) → All (AreClasses inputs) (prefixes inputs)
unfolding prefixes
each_prefix [] = All-cons (AreClasses []) [] [] (none []) (All-nil (AreClasses []))
each_prefix (input ∷ inputs) = All-cons (AreClasses (input ∷ inputs)) [] _ (none (input ∷ inputs))
    (each_first (AreClasses inputs) (AreClasses (input ∷ inputs)) (length input.classes) (prefixes inputs) (λ a list below h. one_more input inputs a list below h) (each_prefix inputs))

each_language : (problem : Problem) → All (AreAllClasses problem.inputs) (languages problem)
unfolding languages
each_language problem = All-filter (λ choice. not (refuted problem choice)) (AreAllClasses problem.inputs) (choices problem.inputs) (each_choice problem.inputs)

each_cut : (problem : Problem) → All (AreClasses problem.inputs) (cuts problem)
unfolding cuts
each_cut problem = All-filter _ (AreClasses problem.inputs) (prefixes problem.inputs) (each_prefix problem.inputs)

-- what holds of the first of each pair
first-at : {X Y : Type 0} (P : X → Type 0) (pairs : List (X × Y)) (firsts : List X) → map (λ pair. pair.0) pairs ≡ firsts → All P firsts → All (λ pair. P pair.0) pairs
first-at {X} {Y} P pairs firsts same each k d below =
    subst P (get_or-map (λ (pair : X × Y). pair.0) pairs k d d.0 below)
    (All-same P (map (λ (pair : X × Y). pair.0) pairs) firsts same each k d.0 (omega (arith, below, length-map pairs (λ (pair : X × Y). pair.0))))

all-from : {X : Type 0} (p : X → Bool) (xs : List X) → list_all p xs ≡ true → All (λ x. p x ≡ true) xs
all-from p [] h = All-nil (λ x. p x ≡ true)
all-from p (x ∷ xs) h = let parts = and_parts (p x) (list_all p xs) h in All-cons (λ y. p y ≡ true) x xs parts.0 (all-from p xs parts.1)

some : {X : Type 0} (xs : List X) → not (length xs == 0) ≡ true → 1 ≤ length xs
some [] h = absurd (cc)
some (x ∷ xs) h = omega arith

certificate-of : (problem : Problem) (terms : List Term) → is_contradiction problem terms ≡ true → IsCertificate problem terms
unfolding is_contradiction
certificate-of problem terms h =
    let a = not (length terms == 0) in
    let b = list_all (is_term problem) terms in
    let c = one_winner_each terms in
    let d = is_contradictory (fusion problem.constraints (map (condition_of problem) terms)) in
    let parts = and_parts a b (and_parts (a && b) c (and_parts (a && b && c) d h).0).0 in
    record { some_term = some terms parts.0; each = all-from (is_term problem) terms parts.1 }

pub printable-found : (problem : Problem) (found : List (List ℕ × List ℕ)) (certificates : List (List Term)) (named : List (List ℕ × ℕ)) → IsTypologyFound problem found certificates named → IsPrintable problem found certificates named
printable-found problem found certificates named h =
    let choice = first-at (AreAllClasses problem.inputs) found (languages problem) h.typology.all (each_language problem) in
    let prefix = first-at (AreClasses problem.inputs) named (cuts problem) h.all_cuts (each_cut problem) in
    record {
      each_language = λ k d below. record {
        choice = let here = choice k d below in record { full = here.full; prefix = record { short = here.classes.short; within = here.classes.within } };
        hierarchy = hierarchy-least problem.constraints _ _ (h.typology.least k d below);
      };
      each_certificate = All-weaker (λ terms. is_contradiction problem terms ≡ true) (IsCertificate problem) (certificate-of problem) certificates h.genuine;
      each_cut = λ k d below. let here = prefix k d below in record { prefix = record { short = here.short; within = here.within }; named = h.named k d below };
    }
