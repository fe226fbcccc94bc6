-- The cuts and the languages of a problem are those that extend the empty prefix.
use Rattle.std.proofs.Common.{◌≡◌, ◌⊎◌, ℕ, zero, suc, ◌+◌, ◌<◌, List, [], ◌∷◌, ◌++◌, Bool, true, false, not, ◌&&◌, arith, refl, sym, ◌∙◌, ap, inl, inr, cond, length, map, flat_map, drop, take, append_assoc, length-append}
use Rattle.std.specs.Prelude.{filter}
use Rattle.std.specs.List.{range_with_len}
use Rattle.std.proofs.lemmas.Bool.{cases_Bool}
use Rattle.std.proofs.lemmas.List.{append-nil, map-append}
use Rattle.std.proofs.lemmas.List.Elements.{filter-append}
use Rattle.std.proofs.lemmas.List.Folds.{flat_map-map}
use Rattle.ot_theory.specs.Rankings.{numbers_below}
use Rattle.ot_theory.specs.Problems.{Input, Problem}
use Rattle.ot_theory.specs.Languages.{choices, languages, classes_at, refuted}
use Rattle.ot_theory.specs.Refutations.{prefixes, cuts}
use Rattle.ot_theory.proofs.Strata.{range-any}
use Rattle.ot_theory.proofs.Optimal.{at_drop, drop_more}
use Rattle.search_deeds.specs.Deeds.{children}
use Rattle.typology_core.specs.Below.{cuts_below, languages_below}
use Rattle.search_deeds.proofs.Reached.{is_behind_cut, refuted-take, behind-push}

-- what extends the prefix
abbrev extended : List ℕ → List (List ℕ) → List (List ℕ)
extended prefix rests = map (λ rest. prefix ++ rest) rests

extended-behind : (prefix : List ℕ) (a : ℕ) (rests : List (List ℕ)) → extended prefix (map (λ rest. a ∷ rest) rests) ≡ extended (prefix ++ a ∷ []) rests
extended-behind prefix a [] = refl
extended-behind prefix a (rest ∷ rests) =
    let here : prefix ++ a ∷ rest ≡ (prefix ++ a ∷ []) ++ rest = sym (append_assoc prefix (a ∷ []) rest) in
    let later = extended-behind prefix a rests in cc

-- those that pass a test, class by class
filter-behind : (p : List ℕ → Bool) (prefix : List ℕ) (rests : List (List ℕ)) (s n : ℕ)
    → filter p (extended prefix (flat_map (λ a. map (λ rest. a ∷ rest) rests) (range_with_len s n))) ≡ flat_map (λ a. filter p (extended (prefix ++ a ∷ []) rests)) (range_with_len s n)
filter-behind p prefix rests s zero = refl
filter-behind p prefix rests s (suc n) =
    ap (filter p) (map-append (λ rest. prefix ++ rest) (map (λ rest. s ∷ rest) rests) (flat_map (λ a. map (λ rest. a ∷ rest) rests) (range_with_len (s + 1) n)))
    ∙ filter-append p (extended prefix (map (λ rest. s ∷ rest) rests)) (extended prefix (flat_map (λ a. map (λ rest. a ∷ rest) rests) (range_with_len (s + 1) n)))
    ∙ ap (λ (l : List (List ℕ)). filter p l ++ filter p (extended prefix (flat_map (λ a. map (λ rest. a ∷ rest) rests) (range_with_len (s + 1) n)))) (extended-behind prefix s rests)
    ∙ ap (λ (l : List (List ℕ)). filter p (extended (prefix ++ s ∷ []) rests) ++ l) (filter-behind p prefix rests (s + 1) n)

filter-none : (p : List ℕ → Bool) (prefix : List ℕ) (rests : List (List ℕ)) → ((rest : List ℕ) → p (prefix ++ rest) ≡ false) → filter p (extended prefix rests) ≡ []
filter-none p prefix [] none = refl
filter-none p prefix (rest ∷ rests) none = rw (none rest) (filter-none p prefix rests none)

pub flat_map-none : {X Y : Type 0} (f : X → List Y) (xs : List X) → ((x : X) → f x ≡ []) → flat_map f xs ≡ []
flat_map-none f [] none = refl
flat_map-none f (x ∷ xs) none = rw (none x) (flat_map-none f xs none)

pub flat_map-same : {X Y : Type 0} (f g : X → List Y) (xs : List X) → ((x : X) → f x ≡ g x) → flat_map f xs ≡ flat_map g xs
flat_map-same f g [] same = refl
flat_map-same f g (x ∷ xs) same = rw (same x, flat_map-same f g xs same) refl

-- class by class of the next input
by_children : (problem : Problem) (prefix : List ℕ) (input : Input) (rest : List Input) (f : List ℕ → List (List ℕ)) → drop (length prefix) problem.inputs ≡ input ∷ rest
    → flat_map (λ a. f (prefix ++ a ∷ [])) (numbers_below (length input.classes)) ≡ flat_map f (children problem prefix)
by_children problem prefix input rest f e =
    sym (flat_map-map f (λ a. prefix ++ a ∷ []) (numbers_below (length (classes_at problem (length prefix))))
    ∙ ap (λ (classes : List (List ℕ)). flat_map (λ a. f (prefix ++ a ∷ [])) (numbers_below (length classes))) (at_drop problem.inputs (length prefix) input rest e))

next_inputs : (problem : Problem) (prefix : List ℕ) (a : ℕ) (input : Input) (rest : List Input) → drop (length prefix) problem.inputs ≡ input ∷ rest → drop (length (prefix ++ a ∷ [])) problem.inputs ≡ rest
next_inputs problem prefix a input rest e =
    let long : length (prefix ++ a ∷ []) ≡ suc (length prefix) = omega (arith, length-append prefix (a ∷ [])) in
    rw long (drop_more problem.inputs (length prefix) input rest e)

take-front : (prefix rest : List ℕ) → take (length prefix) (prefix ++ rest) ≡ prefix
take-front [] rest = refl
take-front (x ∷ prefix) rest = ap (λ (l : List ℕ). x ∷ l) (take-front prefix rest)

refuted-longer : (problem : Problem) (prefix rest : List ℕ) → refuted problem prefix ≡ true → refuted problem (prefix ++ rest) ≡ true
refuted-longer problem prefix rest h = elim (cases_Bool (refuted problem (prefix ++ rest))) [
  | inl e ↦ e
  | inr held ↦ let no : true ≡ false = sym h ∙ ap (refuted problem) (sym (take-front prefix rest)) ∙ refuted-take problem (prefix ++ rest) (length prefix) held in absurd (cc)
]

-- a cut
abbrev is_cut : Problem → List ℕ → Bool
is_cut problem prefix = refuted problem prefix && not (is_behind_cut problem prefix)

no_cut_behind : (problem : Problem) (prefix : List ℕ) (a : ℕ) (rest : List ℕ) → refuted problem prefix ≡ true → is_cut problem ((prefix ++ a ∷ []) ++ rest) ≡ false
no_cut_behind problem prefix a rest h =
    let whole : (prefix ++ a ∷ []) ++ rest ≡ prefix ++ a ∷ rest = append_assoc prefix (a ∷ []) rest in
    let front : refuted problem (take (length prefix) ((prefix ++ a ∷ []) ++ rest)) ≡ true = rw (whole, take-front prefix (a ∷ rest)) h in
    let long : length prefix < length ((prefix ++ a ∷ []) ++ rest) = omega (arith, length-append (prefix ++ a ∷ []) rest, length-append prefix (a ∷ [])) in
    let behind : is_behind_cut problem ((prefix ++ a ∷ []) ++ rest) ≡ true =
    range-any (λ k. refuted problem (take k ((prefix ++ a ∷ []) ++ rest))) 0 (length ((prefix ++ a ∷ []) ++ rest)) (length prefix) (omega arith) (omega (arith, long)) front in
    rw behind (none (refuted problem ((prefix ++ a ∷ []) ++ rest)))
  where
    none : (b : Bool) → (b && false) ≡ false
    none true = refl
    none false = refl

cuts-of : (problem : Problem) (prefix : List ℕ) (inputs : List Input) → drop (length prefix) problem.inputs ≡ inputs → is_behind_cut problem prefix ≡ false
    → filter (is_cut problem) (extended prefix (prefixes inputs)) ≡ cuts_below problem (length inputs) prefix
unfolding prefixes cuts_below
cuts-of problem prefix [] e first = by (refuted problem prefix) refl
  where
    by : (b : Bool) → refuted problem prefix ≡ b → filter (is_cut problem) ((prefix ++ []) ∷ []) ≡ cond b (prefix ∷ []) []
    by true h = rw (append-nil prefix, h, first) refl
    by false h = rw (append-nil prefix, h) refl
cuts-of problem prefix (input ∷ inputs) e first = by (cases_Bool (refuted problem prefix)) (λ a d f. cuts-of problem (prefix ++ a ∷ []) inputs d f)
  where
    tails : List (List ℕ)
    tails = flat_map (λ a. map (λ rest. a ∷ rest) (prefixes inputs)) (numbers_below (length input.classes))

    later : filter (is_cut problem) (extended prefix tails) ≡ flat_map (λ a. filter (is_cut problem) (extended (prefix ++ a ∷ []) (prefixes inputs))) (numbers_below (length input.classes))
    later = filter-behind (is_cut problem) prefix (prefixes inputs) 0 (length input.classes)

    by : (refuted problem prefix ≡ true) ⊎ (refuted problem prefix ≡ false) → ((a : ℕ) → drop (length (prefix ++ a ∷ [])) problem.inputs ≡ inputs → is_behind_cut problem (prefix ++ a ∷ []) ≡ false → filter (is_cut problem) (extended (prefix ++ a ∷ []) (prefixes inputs)) ≡ cuts_below problem (length inputs) (prefix ++ a ∷ []))
        → filter (is_cut problem) ((prefix ++ []) ∷ extended prefix tails) ≡ cond (refuted problem prefix) (prefix ∷ []) (flat_map (cuts_below problem (length inputs)) (children problem prefix))
    by (inl h) each_below =
        let none : filter (is_cut problem) (extended prefix tails) ≡ [] =
        later ∙ flat_map-none (λ a. filter (is_cut problem) (extended (prefix ++ a ∷ []) (prefixes inputs))) (numbers_below (length input.classes)) (λ a. filter-none (is_cut problem) (prefix ++ a ∷ []) (prefixes inputs) (λ rest. no_cut_behind problem prefix a rest h)) in
        rw (append-nil prefix, none, h, first) refl
    by (inr h) each_below =
        let each : filter (is_cut problem) (extended prefix tails) ≡ flat_map (cuts_below problem (length inputs)) (children problem prefix) =
        later
        ∙ flat_map-same (λ a. filter (is_cut problem) (extended (prefix ++ a ∷ []) (prefixes inputs))) (λ a. cuts_below problem (length inputs) (prefix ++ a ∷ [])) (numbers_below (length input.classes))
        (λ a. each_below a (next_inputs problem prefix a input inputs e) (behind-push problem prefix a ∙ rw (first, h) refl))
        ∙ by_children problem prefix input inputs (cuts_below problem (length inputs)) e in
        rw (append-nil prefix, h) each

extended-none : (rests : List (List ℕ)) → extended [] rests ≡ rests
extended-none [] = refl
extended-none (rest ∷ rests) = ap (λ (l : List (List ℕ)). rest ∷ l) (extended-none rests)

pub cuts-below : (problem : Problem) → cuts problem ≡ cuts_below problem (length problem.inputs) []
unfolding cuts
cuts-below problem = ap (filter (is_cut problem)) (sym (extended-none (prefixes problem.inputs))) ∙ cuts-of problem [] problem.inputs refl refl

languages-of : (problem : Problem) (prefix : List ℕ) (inputs : List Input) → drop (length prefix) problem.inputs ≡ inputs
    → filter (λ choice. not (refuted problem choice)) (extended prefix (choices inputs)) ≡ languages_below problem (length inputs) prefix
unfolding choices languages_below
languages-of problem prefix [] e = by (refuted problem prefix) refl
  where
    by : (b : Bool) → refuted problem prefix ≡ b → filter (λ choice. not (refuted problem choice)) ((prefix ++ []) ∷ []) ≡ cond b [] (prefix ∷ [])
    by true h = rw (append-nil prefix, h) refl
    by false h = rw (append-nil prefix, h) refl
languages-of problem prefix (input ∷ inputs) e = by (cases_Bool (refuted problem prefix)) (λ a d. languages-of problem (prefix ++ a ∷ []) inputs d)
  where
    tails : List (List ℕ)
    tails = flat_map (λ a. map (λ rest. a ∷ rest) (choices inputs)) (numbers_below (length input.classes))

    later : filter (λ choice. not (refuted problem choice)) (extended prefix tails) ≡ flat_map (λ a. filter (λ choice. not (refuted problem choice)) (extended (prefix ++ a ∷ []) (choices inputs))) (numbers_below (length input.classes))
    later = filter-behind (λ choice. not (refuted problem choice)) prefix (choices inputs) 0 (length input.classes)

    by : (refuted problem prefix ≡ true) ⊎ (refuted problem prefix ≡ false) → ((a : ℕ) → drop (length (prefix ++ a ∷ [])) problem.inputs ≡ inputs → filter (λ choice. not (refuted problem choice)) (extended (prefix ++ a ∷ []) (choices inputs)) ≡ languages_below problem (length inputs) (prefix ++ a ∷ []))
        → filter (λ choice. not (refuted problem choice)) (extended prefix tails) ≡ cond (refuted problem prefix) [] (flat_map (languages_below problem (length inputs)) (children problem prefix))
    by (inl h) each_below = rw h (filter-none (λ choice. not (refuted problem choice)) prefix tails (λ rest. ap not (refuted-longer problem prefix rest h)))
    by (inr h) each_below = rw h (
        later
        ∙ flat_map-same (λ a. filter (λ choice. not (refuted problem choice)) (extended (prefix ++ a ∷ []) (choices inputs))) (λ a. languages_below problem (length inputs) (prefix ++ a ∷ [])) (numbers_below (length input.classes))
        (λ a. each_below a (next_inputs problem prefix a input inputs e))
        ∙ by_children problem prefix input inputs (languages_below problem (length inputs)) e)

pub languages-below : (problem : Problem) → languages problem ≡ languages_below problem (length problem.inputs) []
unfolding languages
languages-below problem = ap (filter (λ choice. not (refuted problem choice))) (sym (extended-none (choices problem.inputs))) ∙ languages-of problem [] problem.inputs refl
