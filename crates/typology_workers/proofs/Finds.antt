-- The first value that cuts a prefix off.
use Rattle.std.proofs.Common.{◌≡◌, ℕ, zero, suc, ◌-◌, ◌^◌, ◌<◌, ◌≤◌, List, [], ◌∷◌, Bool, true, false, refl, sym, ◌∙◌, ap, subst, cond, arith, Some, None, slice_get, inl, inr}
use Rattle.std.specs.Prelude.{find}
use Rattle.refutation.specs.declared.contradiction.Contradiction.{Contradiction}
use Rattle.refutation_store.specs.Fronts.{FrontView, IsMissed}
use Rattle.typology_workers.specs.Stays.{KeepsFront}
use Rattle.typology_workers.proofs.Staying.{begins-same, front-same, front-then}

abbrev C : Type 0
C = Contradiction

pub first-found : (test : C → Bool) (values : List C) (k : ℕ) (x : C) → slice_get values k ≡ Some x → test x ≡ true → ((j : ℕ) (y : C) → j < k → slice_get values j ≡ Some y → test y ≡ false) → Some x ≡ find test values
first-found test [] k x at pass fail = absurd (cc)
first-found test (z ∷ zs) zero x at pass fail = let same : z ≡ x = cc in let t : test z ≡ true = ap test same ∙ pass in rw t (ap Some (sym same))
first-found test (z ∷ zs) (suc k) x at pass fail = let t : test z ≡ false = fail 0 z (omega arith) refl in rw t (first-found test zs k x at pass (λ j y lt. fail (suc j) y (omega arith)))

pub none-found : (test : C → Bool) (values : List C) → ((j : ℕ) (y : C) → slice_get values j ≡ Some y → test y ≡ false) → None ≡ find test values
none-found test [] fail = refl
none-found test (z ∷ zs) fail = let t : test z ≡ false = fail 0 z refl in rw t (none-found test zs (λ j y at. fail (suc j) y at))

-- what is found stands before all others that pass
pub record IsFirst (test : C → Bool) (values : List C) (x : C) : Type 0 where
  pub place : ℕ
  pub at : slice_get values place ≡ Some x
  pub passes : test x ≡ true
  pub first : (j : ℕ) (y : C) → slice_get values j ≡ Some y → test y ≡ true → place ≤ j

later : (test : C → Bool) (z x : C) (zs : List C) → test z ≡ false → (r : IsFirst test zs x) → (j : ℕ) (y : C) → slice_get (z ∷ zs) j ≡ Some y → test y ≡ true → suc r.place ≤ j
later test z x zs fail r zero y at pass = let same : z ≡ y = cc in let t : test z ≡ true = ap test same ∙ pass in absurd (cc)
later test z x zs fail r (suc j) y at pass = let w = r.first j y at pass in omega arith

pub found-at : (test : C → Bool) (values : List C) (x : C) → find test values ≡ Some x → IsFirst test values x
found-at test [] x e = absurd (cc)
found-at test (z ∷ zs) x e = by (test z) refl e (found-at test zs x)
  where
    by : (b : Bool) → test z ≡ b → cond b (Some z) (find test zs) ≡ Some x → (find test zs ≡ Some x → IsFirst test zs x) → IsFirst test (z ∷ zs) x
    by true t e rest = let same : z ≡ x = cc in record { place = 0; at = ap Some same; passes = ap test (sym same) ∙ t; first = λ j y at pass. omega arith }
    by false t e rest = let r = rest e in record { place = suc r.place; at = r.at; passes = r.passes; first = λ j y at pass. later test z x zs t r j y at pass }

pub none-at : (test : C → Bool) (values : List C) (j : ℕ) (y : C) → find test values ≡ None → slice_get values j ≡ Some y → test y ≡ true → ⊥
none-at test [] j y e at pass = cc
none-at test (z ∷ zs) j y e at pass = by (test z) refl e j at (λ f i. none-at test zs i y f)
  where
    by : (b : Bool) → test z ≡ b → cond b (Some z) (find test zs) ≡ None → (j : ℕ) → slice_get (z ∷ zs) j ≡ Some y → (find test zs ≡ None → (i : ℕ) → slice_get zs i ≡ Some y → test y ≡ true → ⊥) → ⊥
    by true t e j at rest = cc
    by false t e zero at rest = let same : z ≡ y = cc in let u : test z ≡ true = ap test same ∙ pass in cc
    by false t e (suc j) at rest = rest e j at pass

-- a look that shows nothing
pub looked-nothing : (places : ℕ) (a b c : FrontView) → KeepsFront places a b → b.misses ≤ 2 ^ 64 - 1 → IsMissed b c → KeepsFront places a c
looked-nothing places a b c f few e = front-then places a b c f (elim e [
  | inl h ↦ subst (λ (v : FrontView). KeepsFront places b v) (sym h.0) (front-same places b)
  | inr h ↦ subst (λ (v : FrontView). KeepsFront places b v) (sym h) (record { store = refl; values = begins-same b.values; misses = omega arith; within = λ lt. absurd (omega arith) })
])
