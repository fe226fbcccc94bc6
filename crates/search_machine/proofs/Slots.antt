-- What stands at a place of a list, and what a list weighs when one place of it has changed.
use Rattle.std.proofs.Common.{◌≡◌, ℕ, zero, suc, ◌+◌, List, [], ◌∷◌, ◌++◌, Bool, true, false, not, arith, refl, ap, subst, length, flat_map, set, Option, Some, None}
use Rattle.std.specs.Prelude.{All, slice_get, is_some, nat_eq}
use Rattle.std.specs.Option.{option_map_or}
use Rattle.std.proofs.lemmas.Option.{get_or_from_slice_get, slice_get_within}
use Rattle.search_machine.specs.Machine.{Hand, is_filled, is_holding, is_idle}

pub All-at : {X : Type 0} (P : X → Type 0) (xs : List X) (k : ℕ) (x : X) → All P xs → slice_get xs k ≡ Some x → P x
All-at P xs k x all e = subst P (get_or_from_slice_get xs k x x e) (all k x (slice_get_within xs k x e))

-- what weighs the sum of its parts, when x has become y at one place
pub weight-set : {X Y : Type 0} (g : List Y → ℕ) → ((a b : List Y) → g (a ++ b) ≡ g a + g b) → (f : X → List Y) (xs : List X) (k : ℕ) (x y : X) → slice_get xs k ≡ Some x
    → g (flat_map f (set xs k y)) + g (f x) ≡ g (flat_map f xs) + g (f y)
weight-set g sums f [] k x y e = absurd (cc)
weight-set g sums f (z ∷ xs) zero x y e =
    let same : z ≡ x = cc in
    let here = ap (λ v. g (f v)) same in
    omega (arith, sums (f y) (flat_map f xs), sums (f z) (flat_map f xs))
weight-set g sums f (z ∷ xs) (suc k) x y e =
    omega (arith, sums (f z) (flat_map f (set xs k y)), sums (f z) (flat_map f xs), weight-set g sums f xs k x y e)

-- the hand of a worker that holds something that passes a test
pub record Holds (test : Hand → Bool) (hands : List (Option Hand)) (w : ℕ) : Type 0 where
  pub hand : Hand
  pub here : slice_get hands w ≡ Some (Some hand)
  pub passes : test hand ≡ true

pub Holds-from : (test : Hand → Bool) (hands : List (Option Hand)) (w : ℕ) → is_holding test hands w ≡ true → Holds test hands w
Holds-from test hands w h = by (slice_get hands w) refl h
  where
    by : (slot : Option (Option Hand)) → slice_get hands w ≡ slot → option_map_or (λ hand. option_map_or test hand false) slot false ≡ true → Holds test hands w
    by None e h = absurd (cc)
    by (Some None) e h = absurd (cc)
    by (Some (Some hand)) e h = record { hand = hand; here = e; passes = h }

pub idle-here : (hands : List (Option Hand)) (w : ℕ) → is_idle hands w ≡ true → slice_get hands w ≡ Some None
idle-here hands w h = by (slice_get hands w) refl h
  where
    by : (slot : Option (Option Hand)) → slice_get hands w ≡ slot → option_map_or (λ hand. not (is_some hand)) slot false ≡ true → slice_get hands w ≡ Some None
    by None e h = absurd (cc)
    by (Some None) e h = e
    by (Some (Some hand)) e h = absurd (cc)

-- a list of prefixes that is not empty
pub record Filled (lists : List (List (List ℕ))) (w : ℕ) : Type 0 where
  pub front : List ℕ
  pub rest : List (List ℕ)
  pub here : slice_get lists w ≡ Some (front ∷ rest)

pub Filled-from : (lists : List (List (List ℕ))) (w : ℕ) → is_filled lists w ≡ true → Filled lists w
Filled-from lists w h = by (slice_get lists w) refl h
  where
    by : (slot : Option (List (List ℕ))) → slice_get lists w ≡ slot → option_map_or (λ (list : List (List ℕ)). not (nat_eq (length list) 0)) slot false ≡ true → Filled lists w
    by None e h = absurd (cc)
    by (Some []) e h = absurd (cc)
    by (Some (front ∷ rest)) e h = record { front = front; rest = rest; here = e }
