-- Items of a list that hit others, in order of first need, each beside the number of those that it is the first to hit.
use Rattle.std.proofs.Common.{◌≡◌, ℕ, zero, suc, ◌+◌, ◌<◌, List, [], ◌∷◌, ◌++◌, Bool, true, false, not, ◌==◌, arith, refl, sym, ◌∙◌, ap, cond, inl, inr, length, map, flat_map, take}
use Rattle.std.specs.Prelude.{nat_lt}
use Rattle.std.specs.List.{filter, list_all, list_any, range_with_len}
use Rattle.std.proofs.lemmas.Bool.{and_from, cases_Bool, cases_lt, eqb-true, le-ltb, lt-ltb, not_from_false, not-true, and_parts}
use Rattle.std.proofs.lemmas.List.{append-nil}
use Rattle.std.proofs.lemmas.List.Folds.{list_all-append}
use Rattle.typology_core.specs.Learned.{times_judged}

-- one item more
abbrev pub bump : {X : Type 0} (h : X → X → Bool) (x : X) (g : List (X × ℕ)) → List (X × ℕ)
bump h x [] = (x, 1) ∷ []
bump h x (c ∷ g) = cond (h c.0 x) ((c.0, c.1 + 1) ∷ g) (c ∷ bump h x g)

abbrev pub tally : {X : Type 0} (h : X → X → Bool) (g : List (X × ℕ)) (xs : List X) → List (X × ℕ)
tally h g [] = g
tally h g (x ∷ xs) = tally h (bump h x g) xs

abbrev pub leaders : {X : Type 0} (g : List (X × ℕ)) → List X
leaders g = map (λ c. c.0) g

abbrev pub times : {X : Type 0} (g : List (X × ℕ)) → List ℕ
times g = map (λ c. c.1) g

abbrev pub has_length : {X : Type 0} (len : X → ℕ) (n : ℕ) (c : X × ℕ) → Bool
has_length len n c = len c.0 == n

-- Where only items of one length hit each other, the lengths are tallied apart.
filter-bump-same : {X : Type 0} (h : X → X → Bool) (len : X → ℕ) → ((y x : X) → h y x ≡ true → len y ≡ len x) → (n : ℕ) (x : X) → (len x == n) ≡ true → (g : List (X × ℕ))
    → filter (has_length len n) (bump h x g) ≡ bump h x (filter (has_length len n) g)
filter-bump-same h len same n x e [] = rw e refl
filter-bump-same h len same n x e (c ∷ g) = elim (cases_Bool (h c.0 x)) [
  | inl hit ↦ let t : (len c.0 == n) ≡ true = ap (λ k. k == n) (same c.0 x hit) ∙ e in rw (t, hit, t) refl
  | inr miss ↦ elim (cases_Bool (len c.0 == n)) [
    | inl t ↦ rw (t, miss, t) (ap (λ (l : List _). c ∷ l) (filter-bump-same h len same n x e g))
    | inr f ↦ rw (f, miss, f) (filter-bump-same h len same n x e g)
  ]
]

filter-bump-other : {X : Type 0} (h : X → X → Bool) (len : X → ℕ) → ((y x : X) → h y x ≡ true → len y ≡ len x) → (n : ℕ) (x : X) → (len x == n) ≡ false → (g : List (X × ℕ))
    → filter (has_length len n) (bump h x g) ≡ filter (has_length len n) g
filter-bump-other h len same n x e [] = rw e refl
filter-bump-other h len same n x e (c ∷ g) = elim (cases_Bool (h c.0 x)) [
  | inl hit ↦ let f : (len c.0 == n) ≡ false = ap (λ k. k == n) (same c.0 x hit) ∙ e in rw (hit, f) refl
  | inr miss ↦ rw (miss, filter-bump-other h len same n x e g) refl
]

pub tally-filter : {X : Type 0} (h : X → X → Bool) (len : X → ℕ) → ((y x : X) → h y x ≡ true → len y ≡ len x) → (n : ℕ) (g : List (X × ℕ)) (xs : List X)
    → filter (has_length len n) (tally h g xs) ≡ tally h (filter (has_length len n) g) (filter (λ x. len x == n) xs)
tally-filter h len same n g [] = refl
tally-filter h len same n g (x ∷ xs) = elim (cases_Bool (len x == n)) [
  | inl e ↦ rw e (tally-filter h len same n (bump h x g) xs ∙ ap (λ (l : List _). tally h l (filter (λ y. len y == n) xs)) (filter-bump-same h len same n x e g))
  | inr e ↦ rw e (tally-filter h len same n (bump h x g) xs ∙ ap (λ (l : List _). tally h l (filter (λ y. len y == n) xs)) (filter-bump-other h len same n x e g))
]

-- ---- a store with a number of places
abbrev pub stored : {X : Type 0} (h : X → X → Bool) (places : ℕ) (s : List X) (x : X) → List X
stored h places s x = cond (list_any (λ y. h y x) s) s (cond (nat_lt (length s) places) (s ++ x ∷ []) s)

abbrev pub stored_all : {X : Type 0} (h : X → X → Bool) (places : ℕ) (s : List X) (xs : List X) → List X
stored_all h places s [] = s
stored_all h places s (x ∷ xs) = stored_all h places (stored h places s x) xs

-- how many of the items are not hit when their turn comes
abbrev pub missed : {X : Type 0} (h : X → X → Bool) (places : ℕ) (s : List X) (xs : List X) → ℕ
missed h places s [] = 0
missed h places s (x ∷ xs) = cond (list_any (λ y. h y x) s) 0 1 + missed h places (stored h places s x) xs

pub missed-append : {X : Type 0} (h : X → X → Bool) (places : ℕ) (s xs ys : List X) → missed h places s (xs ++ ys) ≡ missed h places s xs + missed h places (stored_all h places s xs) ys
missed-append h places s [] ys = omega arith
missed-append h places s (x ∷ xs) ys = let rest = missed-append h places (stored h places s x) xs ys in omega arith

lt-suc : (a b : ℕ) → nat_lt (suc a) (suc b) ≡ nat_lt a b
lt-suc a b = elim (cases_lt a b) [
  | inl less ↦ lt-ltb (suc a) (suc b) (omega arith) ∙ sym (lt-ltb a b less)
  | inr most ↦ le-ltb (suc a) (suc b) (omega arith) ∙ sym (le-ltb a b (omega arith))
]

stored-behind : {X : Type 0} (h : X → X → Bool) (places : ℕ) (y : X) (s : List X) (x : X) → h y x ≡ false → stored h (suc places) (y ∷ s) x ≡ y ∷ stored h places s x
stored-behind h places y s x miss = elim (cases_Bool (list_any (λ z. h z x) s)) [
  | inl any ↦ rw (miss, any) refl
  | inr none ↦ rw (miss, none, lt-suc (length s) places) (by (nat_lt (length s) places))
]
  where
    by : (b : Bool) → cond b (y ∷ (s ++ x ∷ [])) (y ∷ s) ≡ y ∷ cond b (s ++ x ∷ []) s
    by true = refl
    by false = refl

take-none : {X : Type 0} (k : ℕ) → take k (let none : List X = [] in none) ≡ []
take-none zero = refl
take-none (suc k) = refl

pub take-bump : {X : Type 0} (h : X → X → Bool) (x : X) (places : ℕ) (g : List (X × ℕ)) → take places (leaders (bump h x g)) ≡ stored h places (take places (leaders g)) x
take-bump h x zero [] = refl
take-bump h x zero (c ∷ g) = refl
take-bump h x (suc places) [] = rw (lt-ltb 0 (suc places) (omega arith)) (ap (λ (l : List _). x ∷ l) (take-none places))
take-bump h x (suc places) (c ∷ g) = elim (cases_Bool (h c.0 x)) [
  | inl hit ↦ rw hit refl
  | inr miss ↦ rw miss (ap (λ (l : List _). c.0 ∷ l) (take-bump h x places g)) ∙ sym (stored-behind h places c.0 (take places (leaders g)) x miss)
]

judged-bump : {X : Type 0} (h : X → X → Bool) (x : X) (places : ℕ) (g : List (X × ℕ)) → times_judged places (times (bump h x g)) ≡ times_judged places (times g) + cond (list_any (λ y. h y x) (take places (leaders g))) 0 1
judged-bump h x zero [] = refl
judged-bump h x zero (c ∷ g) = elim (cases_Bool (h c.0 x)) [
  | inl hit ↦ rw hit (omega arith)
  | inr miss ↦ let rest : times_judged zero (times (bump h x g)) ≡ times_judged zero (times g) + 1 = judged-bump h x zero g in rw miss (omega (arith, rest))
]
judged-bump h x (suc places) [] = refl
judged-bump h x (suc places) (c ∷ g) = elim (cases_Bool (h c.0 x)) [
  | inl hit ↦ rw hit (omega arith)
  | inr miss ↦ let rest = judged-bump h x places g in rw miss (omega (arith, rest))
]

-- How many items are not hit, by the tally.
pub missed-tally : {X : Type 0} (h : X → X → Bool) (places : ℕ) (g : List (X × ℕ)) (xs : List X)
    → missed h places (take places (leaders g)) xs + times_judged places (times g) ≡ times_judged places (times (tally h g xs))
missed-tally h places g [] = omega arith
missed-tally h places g (x ∷ xs) =
    let next = rw (take-bump h x places g) at (missed-tally h places (bump h x g) xs) in
    omega (arith, next, judged-bump h x places g)

-- ---- the tally of lengths one after another
pub tally-append : {X : Type 0} (h : X → X → Bool) (g : List (X × ℕ)) (xs ys : List X) → tally h g (xs ++ ys) ≡ tally h (tally h g xs) ys
tally-append h g [] ys = refl
tally-append h g (x ∷ xs) ys = tally-append h (bump h x g) xs ys

bump-behind : {X : Type 0} (h : X → X → Bool) (x : X) (g k : List (X × ℕ)) → list_any (λ c. h c.0 x) g ≡ false → bump h x (g ++ k) ≡ g ++ bump h x k
bump-behind h x [] k e = refl
bump-behind h x (c ∷ g) k e = elim (cases_Bool (h c.0 x)) [
  | inl hit ↦ absurd (let no : true ≡ false = rw hit at e in cc)
  | inr miss ↦ let rest : list_any (λ c. h c.0 x) g ≡ false = rw miss at e in rw (miss, bump-behind h x g k rest) refl
]

tally-behind : {X : Type 0} (h : X → X → Bool) (g k : List (X × ℕ)) (xs : List X) → list_all (λ x. not (list_any (λ c. h c.0 x) g)) xs ≡ true → tally h (g ++ k) xs ≡ g ++ tally h k xs
tally-behind h g k [] e = refl
tally-behind h g k (x ∷ xs) e =
    let both = and_parts (not (list_any (λ c. h c.0 x) g)) (list_all (λ x. not (list_any (λ c. h c.0 x) g)) xs) e in
    ap (λ (l : List _). tally h l xs) (bump-behind h x g k (not-true _ both.0)) ∙ tally-behind h g (bump h x k) xs both.1

all-filter : {X : Type 0} (p q : X → Bool) → ((x : X) → q x ≡ true → p x ≡ true) → (xs : List X) → list_all p (filter q xs) ≡ true
all-filter p q h [] = refl
all-filter p q h (x ∷ xs) = elim (cases_Bool (q x)) [
  | inl e ↦ rw e (and_from _ _ (h x e) (all-filter p q h xs))
  | inr e ↦ rw e (all-filter p q h xs)
]

any-filter : {X : Type 0} (p q : X → Bool) → ((x : X) → q x ≡ true → p x ≡ false) → (xs : List X) → list_any p (filter q xs) ≡ false
any-filter p q h [] = refl
any-filter p q h (x ∷ xs) = elim (cases_Bool (q x)) [
  | inl e ↦ rw (e, h x e) (any-filter p q h xs)
  | inr e ↦ rw e (any-filter p q h xs)
]

none-behind : {X : Type 0} (h : X → X → Bool) (len : X → ℕ) → ((y x : X) → h y x ≡ true → len y ≡ len x) → (g : List (X × ℕ)) (xs : List X) (s t n : ℕ) → s < t
    → list_all (λ x. not (list_any (λ c. h c.0 x) (filter (has_length len s) g))) (flat_map (λ l. filter (λ x. len x == l) xs) (range_with_len t n)) ≡ true
none-behind h len same g xs s t zero less = refl
none-behind {X = X} h len same g xs s t (suc n) less =
    list_all-append _ (filter (λ x. len x == t) xs) (flat_map (λ l. filter (λ x. len x == l) xs) (range_with_len (t + 1) n))
    ∙ and_from _ _
    (all-filter _ (λ x. len x == t) (λ x e. not_from_false _ (any-filter (λ c. h c.0 x) (has_length len s) (λ c f. apart c x (eqb-true _ _ e) (eqb-true _ _ f)) g)) xs)
    (none-behind h len same g xs s (t + 1) n (omega arith))
  where
    apart : (c : X × ℕ) (x : X) → len x ≡ t → len c.0 ≡ s → h c.0 x ≡ false
    apart c x e f = elim (cases_Bool (h c.0 x)) [
      | inl hit ↦ absurd (omega (arith, same c.0 x hit, e, f))
      | inr miss ↦ miss
    ]

pub tally-levels : {X : Type 0} (h : X → X → Bool) (len : X → ℕ) → ((y x : X) → h y x ≡ true → len y ≡ len x) → (xs : List X) (s n : ℕ)
    → tally h [] (flat_map (λ l. filter (λ x. len x == l) xs) (range_with_len s n)) ≡ flat_map (λ l. filter (has_length len l) (tally h [] xs)) (range_with_len s n)
tally-levels h len same xs s zero = refl
tally-levels h len same xs s (suc n) =
    let here = filter (λ x. len x == s) xs in
    let rest = flat_map (λ l. filter (λ x. len x == l) xs) (range_with_len (s + 1) n) in
    let own : tally h [] here ≡ filter (has_length len s) (tally h [] xs) = sym (tally-filter h len same s [] xs) in
    tally-append h [] here rest
    ∙ ap (λ (g : List _). tally h g rest) (own ∙ sym (append-nil (filter (has_length len s) (tally h [] xs))))
    ∙ tally-behind h (filter (has_length len s) (tally h [] xs)) [] rest (none-behind h len same (tally h [] xs) xs s (s + 1) n (omega arith))
    ∙ ap (λ (l : List _). filter (has_length len s) (tally h [] xs) ++ l) (tally-levels h len same xs (s + 1) n)
