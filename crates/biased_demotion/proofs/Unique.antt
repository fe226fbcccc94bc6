-- There is one next stratum, and so one hierarchy of biased demotion.
use Rattle.std.proofs.Common.{◌≡◌, ◌≢◌, ℕ, zero, suc, ◌<◌, ◌≤◌, max, List, [], ◌∷◌, Bool, true, false, ◌&&◌, ◌==◌, cond, length, map, get_or, slice_index, arith, refl, sym, ap, ◌∙◌, inl, inr}
use Rattle.std.specs.Prelude.{All, Contains, nat_lt, filter, fold}
use Rattle.std.proofs.lemmas.Bool.{cases_lt, and_parts, lt-ltb, le-ltb, eq-eqb}
use Rattle.std.proofs.lemmas.Bool.Decides.{eqb_tells, leb_tells}
use Rattle.std.proofs.lemmas.List.{get_or_default, get_or-map, length-map, ext_get_or}
use Rattle.ot_theory.specs.declared.Mark.{Mark}
use Rattle.ot_theory.specs.Rankings.{numbers_below}
use Rattle.ot_theory.specs.Hierarchies.{in_stratum}
use Rattle.ot_theory.proofs.LeftOpen.{of_range, in_range}
use Rattle.biased_demotion.specs.Biased.{is_faithfulness, is_markedness, is_free, is_active, active_faithfulness, freed, IsMostFreeing, IsNext, placed_above, IsBiased}
use Rattle.biased_demotion.specs.Biased.IsNext.{FreeMarkedness, OneFaithfulness, ActiveFaithfulness, AllFree}
use Rattle.biased_demotion.specs.Laws.{HasOneNext, HasOneHierarchy}

-- ---- one next stratum
all_contained : (P : ℕ → Type 0) (xs : List ℕ) (x : ℕ) → All P xs → Contains xs x → P x
all_contained P xs x h c = rw c.2 at (h c.0 x c.1)

contained_some : (xs : List ℕ) (x : ℕ) → Contains xs x → xs ≢ []
contained_some xs x c none = absurd (omega (arith, c.1, ap (λ (l : List ℕ). length l) none))

module _ (faith : List Bool) (levels : List ℕ) (set : List (List Mark)) where
  one_most : (c d : ℕ) → IsMostFreeing faith levels set c → IsMostFreeing faith levels set d → c ≡ d
  one_most c d h g =
      let up : freed faith levels set c ≤ freed faith levels set d = all_contained (λ x. freed faith levels set x ≤ freed faith levels set d) (active_faithfulness faith levels set) c g.greatest h.active in
      let down : freed faith levels set d ≤ freed faith levels set c = all_contained (λ x. freed faith levels set x ≤ freed faith levels set c) (active_faithfulness faith levels set) d h.greatest g.active in
      let before : c < d → freed faith levels set c < freed faith levels set d = all_contained (λ x. x < d → freed faith levels set x < freed faith levels set d) (active_faithfulness faith levels set) c g.first h.active in
      let behind : d < c → freed faith levels set d < freed faith levels set c = all_contained (λ x. x < c → freed faith levels set x < freed faith levels set c) (active_faithfulness faith levels set) d h.first g.active in
      elim (cases_lt c d) [
        | inl less ↦ absurd (omega (arith, before less, down))
        | inr more ↦ elim (cases_lt d c) [
          | inl less ↦ absurd (omega (arith, behind less, up))
          | inr same ↦ omega arith
        ]
      ]

  -- the constraint of rule 2 makes one free; so it is not the case that none does
  frees : (c : ℕ) → IsMostFreeing faith levels set c → All (λ d. freed faith levels set d ≡ 0) (active_faithfulness faith levels set) → ⊥
  frees c h none = absurd (omega (arith, h.some, all_contained (λ d. freed faith levels set d ≡ 0) (active_faithfulness faith levels set) c none h.active))

  pub one_next : HasOneNext faith levels set
  one_next a b (FreeMarkedness s e) (FreeMarkedness t f) = e ∙ sym f
  one_next a b (FreeMarkedness s e) (OneFaithfulness n c h f) = absurd (s n)
  one_next a b (FreeMarkedness s e) (ActiveFaithfulness n z t f) = absurd (s n)
  one_next a b (FreeMarkedness s e) (AllFree n z t f) = absurd (s n)
  one_next a b (OneFaithfulness n c h e) (FreeMarkedness t f) = absurd (t n)
  one_next a b (OneFaithfulness n c h e) (OneFaithfulness m d g f) = e ∙ ap (λ (x : ℕ). x ∷ []) (one_most c d h g) ∙ sym f
  one_next a b (OneFaithfulness n c h e) (ActiveFaithfulness m z t f) = absurd (frees c h z)
  one_next a b (OneFaithfulness n c h e) (AllFree m z t f) = absurd (contained_some (active_faithfulness faith levels set) c h.active z)
  one_next a b (ActiveFaithfulness n z s e) (FreeMarkedness t f) = absurd (t n)
  one_next a b (ActiveFaithfulness n z s e) (OneFaithfulness m d g f) = absurd (frees d g z)
  one_next a b (ActiveFaithfulness n z s e) (ActiveFaithfulness m y t f) = e ∙ sym f
  one_next a b (ActiveFaithfulness n z s e) (AllFree m y t f) = absurd (s y)
  one_next a b (AllFree n z s e) (FreeMarkedness t f) = absurd (t n)
  one_next a b (AllFree n z s e) (OneFaithfulness m d g f) = absurd (contained_some (active_faithfulness faith levels set) d g.active z)
  one_next a b (AllFree n z s e) (ActiveFaithfulness m y t f) = absurd (t z)
  one_next a b (AllFree n z s e) (AllFree m y t f) = e ∙ sym f

-- ---- one hierarchy
max_from : (xs : List ℕ) (m : ℕ) → m ≤ fold max m xs
max_from [] m = omega arith
max_from (x ∷ xs) m = omega (arith, max_from xs (max m x))

at_most_max : (xs : List ℕ) (m k : ℕ) → get_or xs k 0 ≤ fold max m xs
at_most_max [] m k = omega arith
at_most_max (x ∷ xs) m zero = omega (arith, max_from xs (max m x))
at_most_max (x ∷ xs) m (suc k) = at_most_max xs (max m x) k

some_length : (xs : List ℕ) → xs ≢ [] → 0 < length xs
some_length [] h = absurd (h refl)
some_length (x ∷ xs) h = omega arith

-- a constraint that is not placed
abbrev IsLeft : ℕ → List ℕ → Type 0
IsLeft n levels = (c : ℕ) × (c < n) × (slice_index levels c ≡ 0)

zero_of : (x : ℕ) → (x == 0) ≡ true → x ≡ 0
zero_of x e = elim (eqb_tells x 0) [
  | inl same ↦ same.1
  | inr other ↦ let no : true ≡ false = sym e ∙ other.0 in absurd (cc)
]

free_left : (n : ℕ) (levels : List ℕ) (set : List (List Mark)) (c : ℕ) → c < n → is_free levels set c ≡ true → IsLeft n levels
free_left n levels set c below h = (c, below, zero_of (slice_index levels c) (and_parts (slice_index levels c == 0) _ h).0)

active_left : (faith : List Bool) (levels : List ℕ) (set : List (List Mark)) → active_faithfulness faith levels set ≢ [] → IsLeft (length faith) levels
active_left faith levels set s =
    let test : ℕ → Bool = is_active faith levels set in
    let x : ℕ = get_or (filter test (numbers_below (length faith))) 0 0 in
    let o = of_range test 0 (length faith) 0 0 (some_length (filter test (numbers_below (length faith))) s) in
    free_left (length faith) levels set x (omega (arith, o.below)) (and_parts (is_faithfulness faith x) (is_free levels set x) (and_parts (is_faithfulness faith x && is_free levels set x) _ o.passes).0).1

-- where there is a next stratum, a constraint is not placed
next_left : (faith : List Bool) (levels : List ℕ) (set : List (List Mark)) (stratum : List ℕ) → IsNext faith levels set stratum → IsLeft (length faith) levels
next_left faith levels set stratum (FreeMarkedness s e) =
    let test : ℕ → Bool = λ c. is_markedness faith c && is_free levels set c in
    let o = of_range test 0 (length faith) 0 0 (some_length (filter test (numbers_below (length faith))) s) in
    free_left (length faith) levels set (get_or (filter test (numbers_below (length faith))) 0 0) (omega (arith, o.below)) (and_parts (is_markedness faith (get_or (filter test (numbers_below (length faith))) 0 0)) _ o.passes).1
next_left faith levels set stratum (OneFaithfulness n c h e) = active_left faith levels set (contained_some (active_faithfulness faith levels set) c h.active)
next_left faith levels set stratum (ActiveFaithfulness n z s e) = active_left faith levels set s
next_left faith levels set stratum (AllFree n z s e) =
    let o = of_range (is_free levels set) 0 (length faith) 0 0 (some_length (filter (is_free levels set) (numbers_below (length faith))) s) in
    free_left (length faith) levels set (get_or (filter (is_free levels set) (numbers_below (length faith))) 0 0) (omega (arith, o.below)) o.passes

-- the numbers above a stratum agree
record Agree (s x y : ℕ) : Type 0 where
  one : x < s → y ≡ x
  other : y < s → x ≡ y

cut_same : (s x y : ℕ) → Agree s x y → cond (nat_lt x s) x 0 ≡ cond (nat_lt y s) y 0
cut_same s x y h = elim (cases_lt x s) [
  | inl low ↦ ap (λ (z : ℕ). cond (nat_lt z s) z 0) (sym (h.one low))
  | inr high ↦ elim (cases_lt y s) [
    | inl low ↦ ap (λ (z : ℕ). cond (nat_lt z s) z 0) (h.other low)
    | inr too ↦ ap (λ (t : Bool). cond t x 0) (le-ltb x s high) ∙ sym (ap (λ (t : Bool). cond t y 0) (le-ltb y s too))
  ]
]

module _ (faith : List Bool) (set : List (List Mark)) (a b : List ℕ) (h : IsBiased faith set a) (g : IsBiased faith set b) where
  above_same : (s : ℕ) → ((c : ℕ) → c < length faith → Agree s (slice_index a c) (slice_index b c)) → placed_above a s ≡ placed_above b s
  above_same s agree =
      let f : ℕ → ℕ = λ level. cond (nat_lt level s) level 0 in
      ext_get_or 0 (map f a) (map f b) (length-map a f ∙ h.width ∙ sym (length-map b f ∙ g.width)) (λ c below.
      let within : c < length faith = omega (arith, below, length-map a f, h.width) in
      get_or-map f a c 0 0 (omega (arith, within, h.width)) ∙ cut_same s (slice_index a c) (slice_index b c) (agree c within) ∙ sym (get_or-map f b c 0 0 (omega (arith, within, g.width))))

  meets : (s : ℕ) → 1 ≤ s → ((c : ℕ) → c < length faith → Agree s (slice_index a c) (slice_index b c)) → (c : ℕ) → c < length faith → slice_index a c ≡ s → slice_index b c ≡ s
  meets s low agree c below here =
      let next : IsNext faith (placed_above a s) set (in_stratum a s) = h.each s low (omega (arith, at_most_max a 0 c, here)) in
      elim (leb_tells s (fold max 0 b)) [
        | inl within ↦
            let other : IsNext faith (placed_above a s) set (in_stratum b s) = rw (above_same s agree) (g.each s low within.1) in
            let same : in_stratum a s ≡ in_stratum b s = one_next faith (placed_above a s) set (in_stratum a s) (in_stratum b s) next other in
            let member : Contains (in_stratum a s) c = in_range (λ d. slice_index a d == s) 0 (length a) c (record { from = omega arith; below = omega (arith, below, h.width); passes = eq-eqb (slice_index a c) s here }) in
            let found : Contains (in_stratum b s) c = rw same at member in
            let o = of_range (λ d. slice_index b d == s) 0 (length b) found.0 0 found.1 in
            is_s (slice_index b c) (sym (ap (λ (x : ℕ). slice_index b x == s) (get_or_default (in_stratum b s) found.0 0 c found.1 ∙ found.2)) ∙ o.passes)
        | inr past ↦
            let left = next_left faith (placed_above a s) set (in_stratum a s) next in
            let x : ℕ = left.0 in
            let f : ℕ → ℕ = λ level. cond (nat_lt level s) level 0 in
            let high : slice_index b x < s = omega (arith, past.1, at_most_max b 0 x) in
            let some : 1 ≤ slice_index b x = g.placed x 0 (omega (arith, left.1, g.width)) in
            let zero_here : slice_index (placed_above b s) x ≡ 0 = ap (λ (l : List ℕ). slice_index l x) (sym (above_same s agree)) ∙ left.2 in
            let number : slice_index (placed_above b s) x ≡ slice_index b x = get_or-map f b x 0 0 (omega (arith, left.1, g.width)) ∙ ap (λ (t : Bool). cond t (slice_index b x) 0) (lt-ltb (slice_index b x) s high) in
            absurd (omega (arith, some, zero_here, number))
      ]
    where
      is_s : (x : ℕ) → (x == s) ≡ true → x ≡ s
      is_s x e = elim (eqb_tells x s) [
        | inl same ↦ same.1
        | inr differ ↦ let off : true ≡ false = sym e ∙ differ.0 in absurd (cc)
      ]

swapped : (s x y : ℕ) → Agree s x y → Agree s y x
swapped s x y h = record { one = h.other; other = h.one }

agree : (faith : List Bool) (set : List (List Mark)) (a b : List ℕ) → IsBiased faith set a → IsBiased faith set b → (s c : ℕ) → c < length faith → Agree s (slice_index a c) (slice_index b c)
agree faith set a b h g zero c below = record { one = λ low. absurd (omega arith); other = λ low. absurd (omega arith) }
agree faith set a b h g (suc s) c below =
    let before : (d : ℕ) → d < length faith → Agree s (slice_index a d) (slice_index b d) = λ d within. agree faith set a b h g s d within in
    record {
      one = λ low. elim (cases_lt (slice_index a c) s) [
        | inl early ↦ (before c below).one early
        | inr late ↦
            let here : slice_index a c ≡ s = omega arith in
            let some : 1 ≤ slice_index a c = h.placed c 0 (omega (arith, below, h.width)) in
            omega (arith, here, meets faith set a b h g s (omega arith) before c below here)
      ];
      other = λ low. elim (cases_lt (slice_index b c) s) [
        | inl early ↦ (before c below).other early
        | inr late ↦
            let here : slice_index b c ≡ s = omega arith in
            let some : 1 ≤ slice_index b c = g.placed c 0 (omega (arith, below, g.width)) in
            omega (arith, here, meets faith set b a g h s (omega arith) (λ d within. swapped s _ _ (before d within)) c below here)
      ];
    }

pub one_hierarchy : (faith : List Bool) (set : List (List Mark)) → HasOneHierarchy faith set
one_hierarchy faith set a b h g = ext_get_or 0 a b (h.width ∙ sym g.width) (λ c below. sym ((agree faith set a b h g (suc (slice_index a c)) c (omega (arith, below, h.width))).one (omega arith)))
