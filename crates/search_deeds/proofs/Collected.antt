-- What is told of deeds, a deed or a list of them at a time; and what the sorted lists of it are.
use Rattle.std.proofs.Common.{◌≡◌, ℕ, zero, suc, ◌+◌, ◌<◌, List, [], ◌∷◌, ◌++◌, arith, refl, sym, ◌∙◌, ap, length, map, flat_map, take, get_or, append_assoc, ◌≤◌}
use Rattle.std.specs.Prelude.{All, IsPermutation, IsSorted}
use Rattle.std.specs.List.Sorted.{IsSortedBy}
use Rattle.std.specs.Ordering.{is_lt}
use Rattle.std.proofs.lemmas.List.{append-nil, get_or-map, length-map, take_all}
use Rattle.std.proofs.lemmas.List.Elements.{All-nil, All-cons, All-head, All-tail}
use Rattle.std.proofs.lemmas.List.Sorted.{IsPermutation-map, All-permutation, sum_by-IsPermutation}
use Rattle.ot_theory.specs.Hierarchies.{IsLeastHierarchy}
use Rattle.ot_theory.specs.Problems.{Problem}
use Rattle.ot_theory.specs.Languages.{conditions_of, languages, IsTypology}
use Rattle.ot_theory.specs.Refutations.{cuts}
use Rattle.search_deeds.proofs.Fitting.{IsSound}
use Rattle.search_deeds.specs.Deeds.{Deed, Fate, IsTrueOf, AreHonest, AreBalanced, language_by, languages_in, cuts_in}
use Rattle.search_deeds.specs.Deeds.Fate.{Opened, Language, Cut}
use Rattle.refutation.specs.declared.typology.Language as rust
use Rattle.refutation.specs.Typologies.{found_of}
use Rattle.search_deeds.specs.declared.deed.Deed as done
use Rattle.search_deeds.specs.Gathered.{deeds_of}
use Rattle.search_deeds.proofs.Ascending.{order, sorted-languages, sorted-cuts, sorted-same}
use Rattle.search_deeds.proofs.Reached.{languages-collected, cuts-collected}

pub flat_map-append : {X Y : Type 0} (f : X → List Y) (xs ys : List X) → flat_map f (xs ++ ys) ≡ flat_map f xs ++ flat_map f ys
flat_map-append f [] ys = refl
flat_map-append f (x ∷ xs) ys = ap (λ (l : List _). f x ++ l) (flat_map-append f xs ys) ∙ sym (append_assoc (f x) (flat_map f xs) (flat_map f ys))

deed_more : {X Y Z : Type 0} (f : Y → List Z) (g : X → Y) (xs : List X) (k : ℕ) (d : X) → k < length xs → flat_map f (map g (take (k + 1) xs)) ≡ flat_map f (map g (take k xs)) ++ f (g (get_or xs k d))
deed_more f g [] k d h = absurd (omega arith)
deed_more f g (x ∷ xs) zero d h = append-nil (f (g x))
deed_more f g (x ∷ xs) (suc k) d h =
    let e : suc k + 1 ≡ suc (k + 1) = omega arith in
    rw e (ap (λ (l : List _). f (g x) ++ l) (deed_more f g xs k d (omega arith)) ∙ sym (append_assoc (f (g x)) (flat_map f (map g (take k xs))) (f (g (get_or xs k d)))))

-- with one deed more
pub deed-collected : {X Y Z : Type 0} (f : Y → List Z) (g : X → Y) (xs : List X) (k : ℕ) (x : X) (start old new : List Z) → k < length xs → x ≡ get_or xs k x → old ≡ start ++ flat_map f (map g (take k xs)) → new ≡ old ++ f (g x) → new ≡ start ++ flat_map f (map g (take (k + 1) xs))
deed-collected f g xs k x start old new below here before added =
    added ∙ ap (λ (l : List _). l ++ f (g x)) before ∙ append_assoc start (flat_map f (map g (take k xs))) (f (g x))
    ∙ ap (λ (y : _). start ++ (flat_map f (map g (take k xs)) ++ f (g y))) here
    ∙ ap (λ (l : List _). start ++ l) (sym (deed_more f g xs k x below))

-- a list that is sorted by a key has sorted keys
pub sorted-keys : {X : Type 0} (key : X → List ℕ) (xs : List X) → IsSortedBy (λ x y. is_lt (order (key x) (key y))) xs → IsSorted order (map key xs)
sorted-keys key [] h = λ k d l u. absurd (omega arith)
sorted-keys key (x ∷ xs) h = λ k d l u.
    let long : length (map key (x ∷ xs)) ≡ length (x ∷ xs) = length-map (x ∷ xs) key in
    let here = get_or-map key (x ∷ xs) k x d (omega arith) in
    let next = get_or-map key (x ∷ xs) (k + 1) x d (omega arith) in
    ap (λ (l : List ℕ). is_lt (order l (get_or (map key (x ∷ xs)) k d))) next
    ∙ ap (λ (l : List ℕ). is_lt (order (key (get_or (x ∷ xs) (k + 1) x)) l)) here
    ∙ h k x l (omega (arith, long))

choices-found : (languages : List rust.Language) → map (λ (l : List ℕ × List ℕ). l.0) (found_of languages) ≡ map (λ (l : rust.Language). l.choice) languages
choices-found [] = refl
choices-found (l ∷ languages) = ap (λ (r : List (List ℕ)). l.choice ∷ r) (choices-found languages)

-- languages that are sorted by their choices
pub languages-sorted : (sorted list : List rust.Language) → list ≡ sorted → IsSortedBy (λ (x y : rust.Language). is_lt (order x.choice y.choice)) sorted → IsSorted order (map (λ (l : List ℕ × List ℕ). l.0) (found_of list))
languages-sorted sorted list e h = rw (e, choices-found sorted) (sorted-keys (λ (l : rust.Language). l.choice) sorted h)

-- all languages that the deeds tell, in another order
pub languages-members : (all : List (List done.Deed)) (k : ℕ) (before sorted list : List rust.Language) → length all ≤ k → found_of before ≡ languages_in (deeds_of (take k all)) → IsPermutation before sorted → list ≡ sorted
    → IsPermutation (languages_in (deeds_of all)) (found_of list)
languages-members all k before sorted list past told moved e =
    let whole : found_of before ≡ languages_in (deeds_of all) = told ∙ ap (λ (l : List (List done.Deed)). languages_in (deeds_of l)) (take_all k all past) in
    rw (e, ← whole) (IsPermutation-map (λ (l : rust.Language). (l.choice, l.strata)) before sorted moved)

-- a language beside its least hierarchy
abbrev HasLeast : Problem → List ℕ × List ℕ → Type 0
HasLeast problem language = IsLeastHierarchy problem.constraints (conditions_of problem language.0) language.1

least-collected : (problem : Problem) (deeds : List Deed) → AreHonest problem deeds → All (HasLeast problem) (languages_in deeds)
least-collected problem [] h = All-nil (HasLeast problem)
least-collected problem (deed ∷ deeds) h =
    by deed.fate (All-head (λ (d : Deed). IsTrueOf problem d.prefix d.fate) deed deeds h) (least-collected problem deeds (All-tail (λ (d : Deed). IsTrueOf problem d.prefix d.fate) deed deeds h))
  where
    by : (fate : Fate) → IsTrueOf problem deed.prefix fate → All (HasLeast problem) (languages_in deeds) → All (HasLeast problem) (language_by deed.prefix fate ++ languages_in deeds)
    by Opened t rest = rest
    by (Language levels) t rest = All-cons (HasLeast problem) (deed.prefix, levels) (languages_in deeds) t.2 rest
    by (Cut terms) t rest = rest

-- The languages that honest and balanced deeds tell, sorted, are those of the problem, each with its least hierarchy.
pub typology-collected : (problem : Problem) (deeds : List Deed) → IsSound problem → AreHonest problem deeds → AreBalanced problem deeds
    → (found : List (List ℕ × List ℕ)) → IsPermutation (languages_in deeds) found → IsSorted order (map (λ language. language.0) found) → IsTypology problem found
typology-collected problem deeds classes honest balanced found members sorted = record {
  all = sorted-same (map (λ language. language.0) found) (languages problem) sorted (sorted-languages problem)
      (λ p. sum_by-IsPermutation _ (map (λ language. language.0) (languages_in deeds)) (map (λ language. language.0) found) (IsPermutation-map (λ language. language.0) (languages_in deeds) found members)
      ∙ languages-collected problem deeds classes honest balanced p);
  least = All-permutation (HasLeast problem) (languages_in deeds) found members (least-collected problem deeds honest);
}

-- The prefixes that they cut off, sorted, are the cuts of the problem.
pub cuts-sorted : (problem : Problem) (deeds : List Deed) → IsSound problem → AreHonest problem deeds → AreBalanced problem deeds
    → (prefixes : List (List ℕ)) → IsPermutation (cuts_in deeds) prefixes → IsSorted order prefixes → prefixes ≡ cuts problem
cuts-sorted problem deeds classes honest balanced prefixes members sorted =
    sorted-same prefixes (cuts problem) sorted (sorted-cuts problem)
    (λ p. sum_by-IsPermutation _ (cuts_in deeds) prefixes members ∙ cuts-collected problem deeds classes honest balanced p)
