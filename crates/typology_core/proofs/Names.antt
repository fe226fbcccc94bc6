-- What the cuts name: the entries of a tally by the places of the leaders.
use Rattle.std.proofs.Common.{◌≡◌, ℕ, zero, suc, ◌+◌, ◌<◌, ◌≤◌, List, [], ◌∷◌, Bool, true, ◌==◌, arith, refl, sym, ◌∙◌, ap, cond, inl, inr, length, map, get_or}
use Rattle.std.specs.Prelude.{slice_get}
use Rattle.std.specs.List.{filter, position_or_len}
use Rattle.std.specs.Option.{option_map_or}
use Rattle.std.proofs.lemmas.Bool.{cases_Bool, cases_eq, eq-eqb, eqb-true, ne_eqb}
use Rattle.typology_core.specs.Learned.{with_one}
use Rattle.typology_core.proofs.Tallies.{bump, tally}

-- the place of the first leader that hits an item
abbrev pub place : {X : Type 0} (h : X → X → Bool) (x : X) (g : List (X × ℕ)) → ℕ
place h x g = position_or_len (λ c. h c.0 x) g

pub place-own : {X : Type 0} (h : X → X → Bool) → ((x : X) → h x x ≡ true) → (x : X) (g : List (X × ℕ)) → place h x (bump h x g) < length (bump h x g)
place-own h own x [] = rw (own x) (omega arith)
place-own h own x (c ∷ g) = elim (cases_Bool (h c.0 x)) [
  | inl hit ↦ rw (hit, hit) (omega arith)
  | inr miss ↦ let rest = place-own h own x g in rw (miss, miss) (omega (arith, rest))
]

place-stays : {X : Type 0} (h : X → X → Bool) (x y : X) (g : List (X × ℕ)) → place h x g < length g → place h x (bump h y g) ≡ place h x g
place-stays h x y [] l = absurd (omega (arith, l))
place-stays h x y (c ∷ g) l = elim (cases_Bool (h c.0 x)) [
  | inl e ↦ elim (cases_Bool (h c.0 y)) [
    | inl f ↦ rw (f, e) refl
    | inr f ↦ rw (f, e) refl
  ]
  | inr e ↦ let less : place h x g < length g = (let k = rw e at l in omega (arith, k)) in elim (cases_Bool (h c.0 y)) [
    | inl f ↦ rw (f, e) refl
    | inr f ↦ rw (f, e) (ap (λ n. 1 + n) (place-stays h x y g less))
  ]
]

length-bump : {X : Type 0} (h : X → X → Bool) (y : X) (g : List (X × ℕ)) → length g ≤ length (bump h y g)
length-bump h y [] = omega arith
length-bump h y (c ∷ g) = elim (cases_Bool (h c.0 y)) [
  | inl f ↦ rw f (omega arith)
  | inr f ↦ let rest = length-bump h y g in rw f (omega (arith, rest))
]

pub place-settled : {X : Type 0} (h : X → X → Bool) (x : X) (g : List (X × ℕ)) (ys : List X) → place h x g < length g → place h x (tally h g ys) ≡ place h x g
place-settled h x g [] l = refl
place-settled h x g (y ∷ ys) l =
    let same = place-stays h x y g l in
    place-settled h x (bump h y g) ys (omega (arith, same, l, length-bump h y g)) ∙ same

-- the length of a leader and how many items it is the first to hit
abbrev pub entry : {X : Type 0} (len : X → ℕ) (g : List (X × ℕ)) (j : ℕ) → ℕ × ℕ
entry len g j = get_or (map (λ c. (len c.0, c.1)) g) j (0, 0)

abbrev pub with_all : {X : Type 0} (len : X → ℕ) (e : ℕ × ℕ) (xs : List X) → ℕ × ℕ
with_all len e [] = e
with_all len e (x ∷ xs) = with_all len (with_one e (len x)) xs

eqb-suc : (m n : ℕ) → (1 + m == suc n) ≡ (m == n)
eqb-suc m n = elim (cases_eq m n) [
  | inl same ↦ eq-eqb (1 + m) (suc n) (omega (arith, same)) ∙ sym (eq-eqb m n same)
  | inr other ↦ ne_eqb (1 + m) (suc n) (λ e. other (omega (arith, e))) ∙ sym (ne_eqb m n other)
]

entry-bump : {X : Type 0} (h : X → X → Bool) (len : X → ℕ) → ((x : X) → h x x ≡ true) → ((y x : X) → h y x ≡ true → len y ≡ len x) → (x : X) (g : List (X × ℕ)) (j : ℕ)
    → entry len (bump h x g) j ≡ cond (place h x (bump h x g) == j) (with_one (entry len g j) (len x)) (entry len g j)
entry-bump h len own same x [] zero = rw (own x) refl
entry-bump h len own same x [] (suc j) = rw (own x, ne_eqb 0 (suc j) (λ e. omega (arith, e))) refl
entry-bump h len own same x (c ∷ g) zero = elim (cases_Bool (h c.0 x)) [
  | inl hit ↦ elim (cases_Bool (c.1 == 0)) [
    | inl none ↦ let n : c.1 ≡ 0 = eqb-true c.1 0 none in rw (hit, hit, none, same c.0 x hit, n) refl
    | inr some ↦ rw (hit, hit, some) refl
  ]
  | inr miss ↦ rw (miss, miss, ne_eqb (1 + place h x (bump h x g)) 0 (λ e. omega (arith, e))) refl
]
entry-bump h len own same x (c ∷ g) (suc j) = elim (cases_Bool (h c.0 x)) [
  | inl hit ↦ rw (hit, hit, ne_eqb 0 (suc j) (λ e. omega (arith, e))) refl
  | inr miss ↦ rw (miss, miss, eqb-suc (place h x (bump h x g)) j) (entry-bump h len own same x g j)
]

pub entry-tally : {X : Type 0} (h : X → X → Bool) (len : X → ℕ) → ((x : X) → h x x ≡ true) → ((y x : X) → h y x ≡ true → len y ≡ len x) → (g : List (X × ℕ)) (xs : List X) (j : ℕ)
    → entry len (tally h g xs) j ≡ with_all len (entry len g j) (filter (λ x. place h x (tally h g xs) == j) xs)
entry-tally h len own same g [] j = refl
entry-tally h len own same g (x ∷ xs) j =
    let rest = entry-tally h len own same (bump h x g) xs j in
    let here : place h x (tally h (bump h x g) xs) ≡ place h x (bump h x g) = place-settled h x (bump h x g) xs (place-own h own x g) in
    let one = entry-bump h len own same x g j in
    elim (cases_Bool (place h x (bump h x g) == j)) [
      | inl e ↦ rw (here, e) (rest ∙ ap (λ n. with_all len n (filter (λ y. place h y (tally h (bump h x g) xs) == j) xs)) (rw e at one))
      | inr e ↦ rw (here, e) (rest ∙ ap (λ n. with_all len n (filter (λ y. place h y (tally h (bump h x g) xs) == j) xs)) (rw e at one))
    ]

with-more : {X : Type 0} (len : X → ℕ) (l n : ℕ) (xs : List X) → with_all len (l, suc n) xs ≡ (l, suc n + length xs)
with-more len l n [] = let e : suc n + 0 ≡ suc n = omega arith in rw e refl
with-more len l n (x ∷ xs) =
    let e : suc n + 1 ≡ suc (suc n) = omega arith in
    let f : suc (suc n) + length xs ≡ suc n + suc (length xs) = omega arith in
    rw (ne_eqb (suc n) 0 (λ z. omega (arith, z)), e) (with-more len l (suc n) xs ∙ ap (λ k. (l, k)) f)

-- What names a leader has its length, and is as many as it hits first.
pub with-none : {X : Type 0} (len : X → ℕ) (xs : List X) → with_all len (0, 0) xs ≡ (option_map_or len (slice_get xs 0) 0, length xs)
with-none len [] = refl
with-none len (x ∷ xs) = with-more len (len x) 0 xs ∙ ap (λ k. (len x, k)) (let e : 1 + length xs ≡ suc (length xs) = omega arith in e)
