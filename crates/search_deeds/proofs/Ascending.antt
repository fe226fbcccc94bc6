-- The lexicographic order, in which a proper prefix comes before what it begins: the choices and the prefixes ascend in it,
-- and there is one sorted list of given members.
use Rattle.std.proofs.Common.{◌≡◌, ℕ, zero, suc, ◌+◌, ◌<◌, ◌≤◌, List, [], ◌∷◌, ◌++◌, false, not, ◌&&◌, arith, refl, sym, ◌∙◌, ap, inl, inr, cond, length, map, flat_map, get_or}
use Rattle.std.specs.Prelude.{All}
use Rattle.std.specs.List.{range_with_len, AllPairs}
use Rattle.std.specs.List.Sorted.{IsSorted}
use Rattle.std.specs.Ordering.{is_lt, nat_cmp, ordering_then, ordering_reverse, MatchOrdering}
use Rattle.std.specs.declared.cmp.Ordering.{Ordering}
use Rattle.std.specs.declared.cmp.Ordering.TheVariants.{Less, Equal, Greater}
use Rattle.std.specs.Cmp.{IsStrictWeakOrder}
use Rattle.std.specs.Cmp.Lexicographic.{slice_cmp}
use Rattle.std.proofs.lemmas.Bool.{cases_Bool, lt-ltb}
use Rattle.std.proofs.lemmas.Cmp.{nat_list_cmp_total, nat_cmp_total, tied_itself, ranked}
use Rattle.std.proofs.lemmas.List.Sorted.{ranks_by, sorted_far}
use Rattle.std.proofs.lemmas.List.Elements.{All-nil, All-head, All-tail, All-append, All-map}
use Rattle.std.proofs.lemmas.List.Kept.{AllPairs-cons, IsSortedBy-filter}
use Rattle.ot_theory.specs.Rankings.{numbers_below}
use Rattle.ot_theory.specs.Problems.{Input, Problem}
use Rattle.ot_theory.specs.Languages.{choices, languages, refuted}
use Rattle.ot_theory.specs.Refutations.{prefixes, cuts}
use Rattle.ot_theory.proofs.Candidates.{same-refl, same-true}
use Rattle.search_deeds.specs.Deeds.{times}
use Rattle.search_deeds.proofs.Counts.{same, times-cons}
use Rattle.search_deeds.proofs.Reached.{is_behind_cut}

-- one list of numbers comes before another
abbrev pub order : List ℕ → List ℕ → Ordering
order = slice_cmp nat_cmp

pub order-weak : IsStrictWeakOrder (λ x y. is_lt (order x y))
order-weak = ranks_by nat_list_cmp_total (λ x. x)

abbrev Precedes : List ℕ → List ℕ → Type 0
Precedes x y = order x y ≡ Less

-- pairs of a list that is made of others
pairs-tail : {X : Type 0} (R : X → X → Type 0) (x : X) (xs : List X) → AllPairs R (x ∷ xs) → AllPairs R xs
pairs-tail R x xs h = λ i j d a b. h (suc i) (suc j) d (omega arith) (omega arith)

pairs-head : {X : Type 0} (R : X → X → Type 0) (x : X) (xs : List X) → AllPairs R (x ∷ xs) → All (R x) xs
pairs-head R x xs h = λ k d below. h 0 (suc k) d (omega arith) (omega arith)

pairs-none : {X : Type 0} (R : X → X → Type 0) → AllPairs R []
pairs-none R = λ i j d a b. absurd (omega arith)

pairs-append : {X : Type 0} (R : X → X → Type 0) (xs ys : List X) → AllPairs R xs → AllPairs R ys → All (λ x. All (R x) ys) xs → AllPairs R (xs ++ ys)
pairs-append R [] ys a b c = b
pairs-append R (x ∷ xs) ys a b c =
    AllPairs-cons R x (xs ++ ys) (All-append (R x) xs ys (pairs-head R x xs a) (All-head (λ z. All (R z) ys) x xs c))
    (pairs-append R xs ys (pairs-tail R x xs a) b (All-tail (λ z. All (R z) ys) x xs c))

first-same : (a : ℕ) (x y : List ℕ) → Precedes x y → Precedes (a ∷ x) (a ∷ y)
first-same a x y h = rw (tied_itself nat_cmp_total a) h

first-less : (a b : ℕ) (x y : List ℕ) → a < b → Precedes (a ∷ x) (b ∷ y)
first-less a b x y h = rw (lt-ltb a b h) refl

pairs-begun : (a : ℕ) (xs : List (List ℕ)) → AllPairs Precedes xs → AllPairs Precedes (map (λ rest. a ∷ rest) xs)
pairs-begun a [] h = pairs-none Precedes
pairs-begun a (x ∷ xs) h =
    AllPairs-cons Precedes (a ∷ x) (map (λ rest. a ∷ rest) xs)
    (All-map (Precedes (a ∷ x)) (λ rest. a ∷ rest) xs (λ k d below. first-same a x (get_or xs k d) (pairs-head Precedes x xs h k d below)))
    (pairs-begun a xs (pairs-tail Precedes x xs h))

-- what each list of some blocks passes
all-blocks : (P : List ℕ → Type 0) (xs : List (List ℕ)) (s n : ℕ) → ((b : ℕ) (rest : List ℕ) → s ≤ b → P (b ∷ rest)) → All P (flat_map (λ b. map (λ rest. b ∷ rest) xs) (range_with_len s n))
all-blocks P xs s zero h = All-nil P
all-blocks P xs s (suc n) h =
    All-append P (map (λ rest. s ∷ rest) xs) (flat_map (λ b. map (λ rest. b ∷ rest) xs) (range_with_len (s + 1) n))
    (All-map P (λ rest. s ∷ rest) xs (λ k d below. h s (get_or xs k d) (omega arith)))
    (all-blocks P xs (s + 1) n (λ b rest l. h b rest (omega arith)))

pairs-blocks : (xs : List (List ℕ)) (s n : ℕ) → AllPairs Precedes xs → AllPairs Precedes (flat_map (λ b. map (λ rest. b ∷ rest) xs) (range_with_len s n))
pairs-blocks xs s zero h = pairs-none Precedes
pairs-blocks xs s (suc n) h =
    pairs-append Precedes (map (λ rest. s ∷ rest) xs) (flat_map (λ b. map (λ rest. b ∷ rest) xs) (range_with_len (s + 1) n))
    (pairs-begun s xs h) (pairs-blocks xs (s + 1) n h)
    (All-map (λ x. All (Precedes x) (flat_map (λ b. map (λ rest. b ∷ rest) xs) (range_with_len (s + 1) n))) (λ rest. s ∷ rest) xs
    (λ k d below. all-blocks (Precedes (s ∷ get_or xs k d)) xs (s + 1) n (λ b rest l. first-less s b (get_or xs k d) rest (omega arith))))

pairs-choices : (inputs : List Input) → AllPairs Precedes (choices inputs)
unfolding choices
pairs-choices [] = AllPairs-cons Precedes [] [] (All-nil (Precedes [])) (pairs-none Precedes)
pairs-choices (input ∷ inputs) = pairs-blocks (choices inputs) 0 (length input.classes) (pairs-choices inputs)

pairs-prefixes : (inputs : List Input) → AllPairs Precedes (prefixes inputs)
unfolding prefixes
pairs-prefixes [] = AllPairs-cons Precedes [] [] (All-nil (Precedes [])) (pairs-none Precedes)
pairs-prefixes (input ∷ inputs) =
    AllPairs-cons Precedes [] (flat_map (λ b. map (λ rest. b ∷ rest) (prefixes inputs)) (numbers_below (length input.classes)))
    (all-blocks (Precedes []) (prefixes inputs) 0 (length input.classes) (λ b rest l. refl))
    (pairs-blocks (prefixes inputs) 0 (length input.classes) (pairs-prefixes inputs))

sorted-pairs : (xs : List (List ℕ)) → AllPairs Precedes xs → IsSorted order xs
sorted-pairs xs h k d l u =
    ap (λ (o : Ordering). is_lt o) (nat_list_cmp_total.antisymm (get_or xs (k + 1) d) (get_or xs k d) ∙ ap ordering_reverse (h k (k + 1) d (omega arith) u))

pub sorted-languages : (problem : Problem) → IsSorted order (languages problem)
unfolding languages
sorted-languages problem = IsSortedBy-filter (λ x y. is_lt (order x y)) order-weak (λ choice. not (refuted problem choice)) (choices problem.inputs) (sorted-pairs (choices problem.inputs) (pairs-choices problem.inputs))

pub sorted-cuts : (problem : Problem) → IsSorted order (cuts problem)
unfolding cuts
sorted-cuts problem = IsSortedBy-filter (λ x y. is_lt (order x y)) order-weak (λ prefix. refuted problem prefix && not (is_behind_cut problem prefix)) (prefixes problem.inputs) (sorted-pairs (prefixes problem.inputs) (pairs-prefixes problem.inputs))

-- where a list stands among others
record PlaceAmong (p : List ℕ) (xs : List (List ℕ)) (d : List ℕ) : Type 0 where
  at : ℕ
  within : at < length xs
  here : get_or xs at d ≡ p

place_among : (p : List ℕ) (xs : List (List ℕ)) (d : List ℕ) → 0 < times p xs → PlaceAmong p xs d
place_among p [] d h = absurd (omega arith)
place_among p (x ∷ xs) d h = elim (cases_Bool (same p x)) [
  | inl here ↦ record { at = 0; within = omega arith; here = sym (same-true p x here) }
  | inr other ↦
      let e : times p (x ∷ xs) ≡ 0 + times p xs = times-cons p x xs ∙ ap (λ c. cond c 1 0 + times p xs) other in
      let f = place_among p xs d (omega (arith, e)) in
      record { at = suc f.at; within = omega (arith, f.within); here = f.here }
]

pub times-first : (x : List ℕ) (xs : List (List ℕ)) → times x (x ∷ xs) ≡ 1 + times x xs
times-first x xs = times-cons x x xs ∙ ap (λ c. cond c 1 0 + times x xs) (same-refl x)

-- the first of a sorted list comes after none of its members
first-least : (p x : List ℕ) (xs : List (List ℕ)) → IsSorted order (x ∷ xs) → 0 < times p (x ∷ xs) → is_lt (order p x) ≡ false
first-least p x xs up some =
    let f = place_among p (x ∷ xs) p some in
    let far : is_lt (order (get_or (x ∷ xs) f.at p) x) ≡ false = sorted_far (λ x y. is_lt (order x y)) order-weak (x ∷ xs) up 0 f.at p (omega arith) f.within in
    ap (λ (l : List ℕ). is_lt (order l x)) (sym f.here) ∙ far

order-same : (x y : List ℕ) → order x y ≡ Equal → x ≡ y
order-same [] [] h = refl
order-same [] (y ∷ ys) h = absurd (cc)
order-same (x ∷ xs) [] h = absurd (cc)
order-same (x ∷ xs) (y ∷ ys) h = by (nat_cmp x y) (ranked x y (nat_cmp x y) refl) h (order-same xs ys)
  where
    by : (o : Ordering) → MatchOrdering o (x < y) (x ≡ y) (y < x) → ordering_then o (order xs ys) ≡ Equal → (order xs ys ≡ Equal → xs ≡ ys) → x ∷ xs ≡ y ∷ ys
    by Less m h rest = absurd (cc)
    by Equal m h rest = let e = rest h in cc
    by Greater m h rest = absurd (cc)

neither : (x y : List ℕ) → is_lt (order x y) ≡ false → is_lt (order y x) ≡ false → x ≡ y
neither x y a b = order-same x y (by (order x y) a (ap (λ (o : Ordering). is_lt o) (sym (nat_list_cmp_total.antisymm y x)) ∙ b))
  where
    by : (o : Ordering) → is_lt o ≡ false → is_lt (ordering_reverse o) ≡ false → o ≡ Equal
    by Less a b = absurd (cc)
    by Equal a b = refl
    by Greater a b = absurd (cc)

sorted-tail : (x : List ℕ) (xs : List (List ℕ)) → IsSorted order (x ∷ xs) → IsSorted order xs
sorted-tail x xs up k d l u = let e : suc k + 1 ≡ suc (k + 1) = omega arith in rw e at (up (suc k) d (omega arith) (omega arith))

-- Two sorted lists with the same members, each as often, are the same.
pub sorted-same : (xs ys : List (List ℕ)) → IsSorted order xs → IsSorted order ys → ((p : List ℕ) → times p xs ≡ times p ys) → xs ≡ ys
sorted-same [] [] a b h = refl
sorted-same [] (y ∷ ys) a b h = absurd (let e = h y in omega (arith, e, times-first y ys))
sorted-same (x ∷ xs) [] a b h = absurd (let e = h x in omega (arith, e, times-first x xs))
sorted-same (x ∷ xs) (y ∷ ys) a b h =
    let first : x ≡ y = neither x y (first-least x y ys b (omega (arith, h x, times-first x xs))) (first-least y x xs a (omega (arith, h y, times-first y ys))) in
    let rest : xs ≡ ys = sorted-same xs ys (sorted-tail x xs a) (sorted-tail y ys b) (λ p. omega (arith, h p, times-cons p x xs, times-cons p y ys ∙ ap (λ (l : List ℕ). cond (same p l) 1 0 + times p ys) (sym first))) in
    cc
